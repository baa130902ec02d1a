use Rattle.gfx_schedule.proofs.Turns.{every_schedule_from}
use Rattle.gfx_schedule.proofs.laws.every_schedule_from_a_start.Goals as goal

pub returns : goal.returns
returns c = every_schedule_from
