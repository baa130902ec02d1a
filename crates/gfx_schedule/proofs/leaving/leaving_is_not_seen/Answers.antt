use Rattle.gfx_schedule.proofs.LeavingSteps.{not_seen}
use Rattle.gfx_schedule.proofs.leaving.leaving_is_not_seen.Goals as goal

pub returns : goal.returns
returns c = not_seen
