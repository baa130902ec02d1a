use Rattle.std.proofs.Common.{◌≡◌, ℕ, ◌<◌, Some, length}
use Rattle.std.specs.Prelude.{slice_get}
use Rattle.gfx_quant.proofs.greys.put_solid.Given as goal

abbrev pub invariant-loop-place : goal.invariant-loop-place
invariant-loop-place l = record {
  len : length l.out ≡ 4096;
  row : (k : ℕ) → k < l.place → slice_get l.out k ≡ Some l.pixel;
}
