use Rattle.gfx_schedule.proofs.Turns.{every_schedule}
use Rattle.gfx_schedule.proofs.laws.every_schedule.Goals as goal

pub returns : goal.returns
returns c = every_schedule
