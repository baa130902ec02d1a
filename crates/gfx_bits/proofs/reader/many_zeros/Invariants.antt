use Rattle.std.proofs.Common.{◌-◌, ◌≤◌, false, replicate}
use Rattle.gfx_bits.specs.Bits.{Spelled}
use Rattle.gfx_bits.proofs.reader.many_zeros.Given as goal

abbrev pub invariant-windows : goal.invariant-windows
invariant-windows l = (l.found ≤ l.most) × Spelled l.initial.reader (replicate l.found false) l.reader

abbrev pub decreases-windows : goal.decreases-windows
decreases-windows l = l.most - l.found
