use Rattle.gfx_clear.proofs.Law.{held_pictures}
use Rattle.gfx_clear.proofs.laws.held_is_shown.Goals as goal

pub returns : goal.returns
returns c = held_pictures
