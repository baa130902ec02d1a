use Rattle.gfx_tile_state.proofs.OneReading.{one-reading}
use Rattle.gfx_tile_state.proofs.laws.one_reading.Goals as goal

pub returns : goal.returns
returns c pass one other p q = one-reading pass one other p q
