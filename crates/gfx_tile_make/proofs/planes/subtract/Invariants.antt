use Rattle.std.proofs.Common.{◌≡◌, ℕ, ◌<◌, ◌-ℤ◌, length}
use Rattle.gfx_dwt.specs.Ranges.{Within, at}
use Rattle.gfx_tile_make.proofs.planes.subtract.Given as goal

abbrev pub invariant-loop-place : goal.invariant-loop-place
invariant-loop-place l = (length l.out ≡ 4096) × ((k : ℕ) → k < l.place → at l.out k ≡ at l.own k -ℤ at l.kept k) × ((k : ℕ) → k < l.place → Within 65535 (at l.out k))
