use Rattle.std.proofs.Common.{◌≡◌, ◌+◌, suc, drop, length}
use Rattle.gfx_bits.specs.Bits.{ones}
use Rattle.gfx_rlgr.proofs.pair_reader.count_ones.Given as goal

abbrev pub invariant-windows : goal.invariant-windows
invariant-windows l = (l.count + ones l.bits ≡ ones l.initial.bits) × (drop (suc (ones l.bits)) l.bits ≡ drop (suc (ones l.initial.bits)) l.initial.bits)

abbrev pub decreases-windows : goal.decreases-windows
decreases-windows l = length l.bits
