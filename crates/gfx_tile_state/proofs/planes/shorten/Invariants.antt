use Rattle.std.proofs.Common.{◌≡◌, ℕ, ◌<◌, length}
use Rattle.std.specs.Prelude.{IsTrue}
use Rattle.gfx_dwt.specs.Ranges.{at}
use Rattle.gfx_tile_state.proofs.planes.shorten.Given as goal

abbrev pub invariant-loop-place : goal.invariant-loop-place
invariant-loop-place l = (length l.out ≡ 4096) × (IsTrue l.fits → (k : ℕ) → k < l.place → at l.out k ≡ at l.plane k)
