use Rattle.std.proofs.Common.{◌≡◌, ℕ, ◌<◌, length}
use Rattle.gfx_dwt.specs.Ranges.{IsCoefficient, at}
use Rattle.codec_tests.proofs.dwt.draw_coefficients.Given as goal

abbrev pub invariant-loop-k : goal.invariant-loop-k
invariant-loop-k l = record { len : length l.plane ≡ 4096; drawn : (j : ℕ) → j < l.k → IsCoefficient (at l.plane j) }
