use Rattle.std.proofs.Common.{◌≡◌, ℕ, ◌+◌, ◌*◌, ◌<◌, Some, length}
use Rattle.std.specs.Prelude.{slice_get}
use Rattle.gfx_quant.proofs.Rests.{pixel_by}
use Rattle.gfx_quant.proofs.halves.join_halves.Given as goal

abbrev pub invariant-loop-place : goal.invariant-loop-place
invariant-loop-place l = record {
  len : length l.out ≡ 4096;
  row : (k b g r : ℕ) → k < l.place → b < 256 → r < 256 → slice_get l.low k ≡ Some (b + 256 * g) → slice_get l.high k ≡ Some r → slice_get l.out (l.from + k) ≡ Some (pixel_by b g r);
  before : (k : ℕ) → k < l.from → slice_get l.out k ≡ slice_get l.initial.out k;
}
