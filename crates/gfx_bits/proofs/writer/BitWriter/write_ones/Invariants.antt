use Rattle.std.proofs.Common.{◌≡◌, ◌≤◌, ◌-◌, ◌++◌, true, replicate}
use Rattle.gfx_bits.proofs.writer.BitWriter.write_ones.Given as goal

abbrev pub invariant-words : goal.invariant-words
invariant-words l = (l.left ≤ l.count) × (l.self ≡ l.initial.self ++ replicate (l.count - l.left) true)

abbrev pub decreases-words : goal.decreases-words
decreases-words l = l.left
