use Rattle.std.proofs.Common.{◌≡◌, ◌++◌, replicate}
use Rattle.gfx_clear_runs.proofs.read.append_few.Given as goal

abbrev pub invariant-copies : goal.invariant-copies
invariant-copies l = l.out ≡ l.fn.out ++ replicate l.counter l.fn.colour
