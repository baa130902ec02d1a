use Rattle.std.proofs.Common.{◌≡◌, ℕ, ◌+◌, ◌*◌, ◌<◌}
use Rattle.gfx_dwt.specs.Lifting.{odd_of}
use Rattle.gfx_dwt.specs.Samples.{cell}
use Rattle.gfx_dwt.proofs.narrow.rows.line_rows.Given as goal

abbrev pub invariant-loop-r : goal.invariant-loop-r
invariant-loop-r l = record {
  evens : (i k : ℕ) → i < l.r → 2 * k < l.size → cell l.size l.out i (2 * k) ≡ cell l.room l.evens i k;
  odds : (i k : ℕ) → i < l.r → 2 * k + 1 < l.size → cell l.size l.out i (2 * k + 1) ≡ odd_of l.transform (cell l.room l.edges i (k + 1)) (cell l.room l.evens i k) (cell l.room l.evens i (k + 1));
}
