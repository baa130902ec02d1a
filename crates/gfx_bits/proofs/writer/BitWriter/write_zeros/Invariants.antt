use Rattle.std.proofs.Common.{◌≡◌, ◌≤◌, ◌-◌, ◌++◌, false, replicate}
use Rattle.gfx_bits.proofs.writer.BitWriter.write_zeros.Given as goal

abbrev pub invariant-words : goal.invariant-words
invariant-words l = (l.left ≤ l.count) × (l.self ≡ l.initial.self ++ replicate (l.count - l.left) false)

abbrev pub decreases-words : goal.decreases-words
decreases-words l = l.left
