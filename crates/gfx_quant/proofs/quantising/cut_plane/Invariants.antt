use Rattle.std.proofs.Common.{◌≡◌, ℕ, ◌<◌, ◌≤◌, length}
use Rattle.gfx_dwt.specs.Ranges.{IsCoefficient, at}
use Rattle.gfx_quant.specs.Coefficient.{cut}
use Rattle.gfx_quant.proofs.quantising.cut_plane.Given as goal

abbrev pub invariant-loop-place : goal.invariant-loop-place
invariant-loop-place l = record {
  len : length l.plane ≡ 4096;
  value : (k : ℕ) → k < l.place → at l.plane k ≡ cut (at l.initial.plane k);
  small : (k : ℕ) → k < l.place → IsCoefficient (at l.plane k);
  due : (k : ℕ) → l.place ≤ k → at l.plane k ≡ at l.initial.plane k;
}
