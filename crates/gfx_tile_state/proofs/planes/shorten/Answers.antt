use Rattle.std.proofs.Common.{arith}
use Rattle.gfx_tile_state.proofs.Places.{same-plane}
use Rattle.gfx_tile_state.proofs.planes.shorten.Goals as goal

pub returns : goal.returns
returns c = λ fits. same-plane c.loop-place.out c.args.plane.now 4096 c.loop-place.invariant.0 (omega arith) (λ k h. c.loop-place.invariant.1 fits k (omega arith))
