use Rattle.std.proofs.Common.{◌≡◌, ℕ, ◌+◌, ◌-◌, ◌<◌}
use Rattle.gfx_dwt.specs.Lifting.{even_of}
use Rattle.gfx_dwt.specs.Samples.{cell}
use Rattle.gfx_dwt.proofs.narrow.rows.even_rows.Given as goal

abbrev pub invariant-loop-r : goal.invariant-loop-r
invariant-loop-r l = record {
  each : (i k : ℕ) → i < l.r → k < l.low_size → cell l.room l.evens i k ≡ even_of l.transform (cell l.low_size l.low i k) (cell l.room l.edges i k) (cell l.room l.edges i (k + 1));
  last : (i : ℕ) → i < l.r → cell l.room l.evens i l.low_size ≡ cell l.room l.evens i (l.low_size - 1);
}
