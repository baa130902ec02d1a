use Rattle.std.proofs.Common.{◌≡◌, ℕ, ◌<◌}
use Rattle.gfx_dwt.specs.Lifting.{high_of}
use Rattle.gfx_dwt.specs.Ranges.{at}
use Rattle.gfx_dwt.proofs.kernels.differ_by.Given as goal

abbrev pub invariant-loop-k : goal.invariant-loop-k
invariant-loop-k g l = (j : ℕ) → j < l.k → at l.out j ≡ high_of g.L.Lifting.transform (at l.odd j) (at l.left j) (at l.right j)
