use Rattle.gfx_schedule.proofs.LeavingItems.{only_leaves}
use Rattle.gfx_schedule.proofs.leaving.leaving_only_leaves.Goals as goal

pub returns : goal.returns
returns c = only_leaves
