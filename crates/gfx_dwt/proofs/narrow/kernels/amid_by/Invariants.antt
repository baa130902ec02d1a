use Rattle.std.proofs.Common.{◌≡◌, ℕ, ◌<◌, ◌+ℤ◌}
use Rattle.gfx_dwt.specs.Lifting.{halved}
use Rattle.gfx_dwt.specs.Ranges.{at}
use Rattle.gfx_dwt.proofs.narrow.kernels.amid_by.Given as goal

abbrev pub invariant-loop-k : goal.invariant-loop-k
invariant-loop-k g l = (j : ℕ) → j < l.k → at l.out j ≡ halved g.L.NarrowLifting.transform (at l.left j +ℤ at l.right j)
