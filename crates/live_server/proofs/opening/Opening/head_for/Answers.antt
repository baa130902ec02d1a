use Rattle.std.proofs.Common.{sym}
use Rattle.live_server.proofs.opening.Opening.head_for.Goals as goal

pub head_chosen-requires : goal.head_chosen-requires
head_chosen-requires c = c.chosen_versions_are_offers.ensures _ _ (sym c.in-Ok.ensures)
