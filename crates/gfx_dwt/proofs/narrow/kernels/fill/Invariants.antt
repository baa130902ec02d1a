use Rattle.std.proofs.Common.{◌≡◌, ℕ, ◌<◌}
use Rattle.gfx_dwt.specs.Ranges.{at}
use Rattle.gfx_dwt.proofs.narrow.kernels.fill.Given as goal

abbrev pub invariant-loop-place : goal.invariant-loop-place
invariant-loop-place l = (k : ℕ) → k < l.place → at l.out k ≡ l.value
