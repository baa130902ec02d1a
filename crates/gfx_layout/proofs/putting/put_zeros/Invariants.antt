use Rattle.std.proofs.Common.{◌≡◌, ◌++◌, replicate}
use Rattle.gfx_layout.proofs.putting.put_zeros.Given as goal

abbrev pub invariant-zeros : goal.invariant-zeros
invariant-zeros l = l.out ≡ l.initial.out ++ replicate l.counter 0
