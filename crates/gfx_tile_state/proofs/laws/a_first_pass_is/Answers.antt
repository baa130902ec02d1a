use Rattle.gfx_tile_state.proofs.Making.{first-is}
use Rattle.gfx_tile_state.proofs.laws.a_first_pass_is.Goals as goal

pub returns : goal.returns
returns c result t positions bytes kept old new took = first-is result t positions bytes kept old new took
