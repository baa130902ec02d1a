use Rattle.gfx_tile_state.proofs.Making.{upgrades-is}
use Rattle.gfx_tile_state.proofs.laws.may_upgrade_is.Goals as goal

pub returns : goal.returns
returns c result tile shape may = upgrades-is result tile shape may
