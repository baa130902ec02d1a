use Rattle.std.proofs.Common.{◌≡◌, ℕ, ◌<◌, length}
use Rattle.gfx_dwt.specs.Ranges.{IsSample, at}
use Rattle.codec_tests.proofs.dwt.draw_samples.Given as goal

abbrev pub invariant-loop-k : goal.invariant-loop-k
invariant-loop-k l = record { len : length l.plane ≡ 4096; drawn : (j : ℕ) → j < l.k → IsSample (at l.plane j) }
