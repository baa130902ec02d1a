use Rattle.gfx_schedule.proofs.LeavingSteps.{is_allowed}
use Rattle.gfx_schedule.proofs.leaving.leaving_is_allowed.Goals as goal

pub returns : goal.returns
returns c = is_allowed
