use Rattle.gfx_schedule.proofs.Turns.{every_schedule_alike}
use Rattle.gfx_schedule.proofs.laws.every_schedule_alike.Goals as goal

pub returns : goal.returns
returns c = every_schedule_alike
