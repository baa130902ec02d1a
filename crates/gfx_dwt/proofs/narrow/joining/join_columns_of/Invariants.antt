use Rattle.std.proofs.Common.{◌≡◌, ℕ, ◌+◌, ◌*◌, ◌<◌}
use Rattle.gfx_dwt.specs.Joining.{joined}
use Rattle.gfx_dwt.specs.Samples.{cell, column}
use Rattle.gfx_dwt.proofs.narrow.joining.join_columns_of.Given as goal

abbrev pub invariant-loop-place : goal.invariant-loop-place
invariant-loop-place l = (i c : ℕ) → i < 2 * l.place + 1 → c < l.width → cell l.width l.out i c ≡ joined l.transform l.level (column l.width l.low c) (column l.width l.high c) i
