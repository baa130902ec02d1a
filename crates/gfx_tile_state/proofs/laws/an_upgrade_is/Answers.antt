use Rattle.gfx_tile_state.proofs.Making.{upgrade-is}
use Rattle.gfx_tile_state.proofs.laws.an_upgrade_is.Goals as goal

pub returns : goal.returns
returns c result pass positions old new took = upgrade-is result pass positions old new took
