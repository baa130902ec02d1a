use Rattle.gfx_estimate.proofs.Streams.{go_by_no_state}
use Rattle.gfx_estimate.proofs.laws.sizes_go_by_no_state.Goals as goal

pub returns : goal.returns
returns c = go_by_no_state
