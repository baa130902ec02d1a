use Rattle.gfx_tile_state.proofs.Making.{adds-is}
use Rattle.gfx_tile_state.proofs.laws.may_add_is.Goals as goal

pub returns : goal.returns
returns c result tile t may = adds-is result tile t may
