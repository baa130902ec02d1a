use Rattle.std.proofs.Common.{◌≡◌, ℕ, ◌<◌}
use Rattle.gfx_dwt.specs.Joining.{joined}
use Rattle.gfx_dwt.specs.Samples.{cell}
use Rattle.gfx_dwt.proofs.NoDetail.{nought}
use Rattle.gfx_dwt.proofs.narrow.smooth.smooth_rows_of.Given as goal

abbrev pub invariant-loop-r : goal.invariant-loop-r
invariant-loop-r l = (i c : ℕ) → i < l.r → c < l.size → cell l.size l.out i c ≡ joined l.transform l.fn.level (cell l.low_size l.fn.low i) nought c
