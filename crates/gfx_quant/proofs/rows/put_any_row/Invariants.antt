use Rattle.std.proofs.Common.{◌≡◌, ℕ, ◌+◌, ◌<◌, Some, length}
use Rattle.std.specs.Prelude.{slice_get}
use Rattle.gfx_dwt.specs.Ranges.{at}
use Rattle.gfx_quant.specs.Colour.{colour_of}
use Rattle.gfx_quant.proofs.rows.put_any_row.Given as goal

abbrev pub invariant-loop-place : goal.invariant-loop-place
invariant-loop-place l = record {
  len : length l.out ≡ 4096;
  row : (k : ℕ) → k < l.place → slice_get l.out (l.from + k) ≡ Some (colour_of (at l.y (l.from + k)) (at l.cb (l.from + k)) (at l.cr (l.from + k)));
  before : (k : ℕ) → k < l.from → slice_get l.out k ≡ slice_get l.initial.out k;
}
