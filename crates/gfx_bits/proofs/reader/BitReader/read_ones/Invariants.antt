use Rattle.std.proofs.Common.{◌≡◌, ◌+◌, ◌-◌, ◌^◌, suc, min, drop, length}
use Rattle.gfx_bits.specs.Bits.{ones}
use Rattle.gfx_bits.proofs.reader.BitReader.read_ones.Given as goal

abbrev pub invariant-windows : goal.invariant-windows
invariant-windows l =
    (min (l.count + ones l.self) (2 ^ 32 - 1) ≡ min (ones l.initial.self) (2 ^ 32 - 1))
    × (drop (suc (ones l.self)) l.self ≡ drop (suc (ones l.initial.self)) l.initial.self)

abbrev pub decreases-windows : goal.decreases-windows
decreases-windows l = length l.self
