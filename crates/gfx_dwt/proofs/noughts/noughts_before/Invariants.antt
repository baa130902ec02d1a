use Rattle.std.proofs.Common.{◌≡◌, ℕ, ◌*◌, ◌<◌, pos}
use Rattle.gfx_dwt.specs.Ranges.{at}
use Rattle.gfx_dwt.proofs.noughts.noughts_before.Given as goal

abbrev pub invariant-loop-block : goal.invariant-loop-block
invariant-loop-block l = (k : ℕ) → k < 64 * l.block → at l.plane k ≡ pos 0
