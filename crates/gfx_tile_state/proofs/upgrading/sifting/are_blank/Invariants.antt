use Rattle.std.proofs.Common.{◌≡◌, ◌≤◌, ◌<◌, ℕ, pos, IsTrue}
use Rattle.gfx_dwt.specs.Ranges.{at}
use Rattle.gfx_tile_state.proofs.upgrading.sifting.are_blank.Given as goal

abbrev pub invariant-loop-place : goal.invariant-loop-place
invariant-loop-place l = IsTrue l.blank → (k : ℕ) → l.from ≤ k → k < l.place → at l.plane k ≡ pos 0
