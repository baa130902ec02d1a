use Rattle.std.proofs.Common.{◌≡◌, ℕ, ◌*◌, ◌<◌}
use Rattle.gfx_dwt.specs.Joining.{joined}
use Rattle.gfx_dwt.specs.Samples.{cell, column}
use Rattle.gfx_dwt.proofs.NoDetail.{nought}
use Rattle.gfx_dwt.proofs.narrow.smooth.smooth_columns_of.Given as goal

abbrev pub invariant-pairs : goal.invariant-pairs
invariant-pairs l = (i c : ℕ) → i < 2 * l.place → c < l.width → cell l.width l.out i c ≡ joined l.fn.transform l.fn.level (column l.width l.low c) nought i

abbrev pub invariant-rest : goal.invariant-rest
invariant-rest l = (i c : ℕ) → i < l.r → c < l.width → cell l.width l.out i c ≡ joined l.fn.transform l.fn.level (column l.width l.low c) nought i
