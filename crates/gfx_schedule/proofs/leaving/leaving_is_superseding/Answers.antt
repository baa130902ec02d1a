use Rattle.gfx_schedule.proofs.LeavingItems.{by_place}
use Rattle.gfx_schedule.proofs.leaving.leaving_is_superseding.Goals as goal

pub returns : goal.returns
returns c = by_place
