use Rattle.std.proofs.Common.{◌≡◌, ℕ, pos, negsuc, ◌+◌, ◌*◌, ◌<◌, ◌+ℤ◌, ◌*ℤ◌, Some, length}
use Rattle.std.specs.Prelude.{slice_get}
use Rattle.gfx_dwt.specs.Ranges.{at}
use Rattle.gfx_quant.specs.Colour.{channel}
use Rattle.gfx_quant.proofs.rows.put_halves.Given as goal

abbrev pub invariant-loop-place : goal.invariant-loop-place
invariant-loop-place l = record {
  low_len : length l.low ≡ 64;
  high_len : length l.high ≡ 64;
  lows : (k : ℕ) → k < l.place → slice_get l.low k ≡ Some (channel (at l.y (l.from + k)) (pos 115992 *ℤ at l.cb (l.from + k)) + 256 * channel (at l.y (l.from + k)) (negsuc 22526 *ℤ at l.cb (l.from + k) +ℤ negsuc 46818 *ℤ at l.cr (l.from + k)));
  highs : (k : ℕ) → k < l.place → slice_get l.high k ≡ Some (channel (at l.y (l.from + k)) (pos 91916 *ℤ at l.cr (l.from + k)));
}
