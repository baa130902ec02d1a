use Rattle.std.proofs.Common.{◌≡◌, ℕ, ◌<◌, length}
use Rattle.gfx_dwt.specs.Ranges.{IsCoefficient, at}
use Rattle.gfx_rfx_video.proofs.colours.load.Given as goal

abbrev pub invariant-loop-place : goal.invariant-loop-place
invariant-loop-place l = (length l.out ≡ 4096) × ((k : ℕ) → k < l.place → at l.out k ≡ at l.from k) × ((k : ℕ) → k < l.place → IsCoefficient (at l.out k))
