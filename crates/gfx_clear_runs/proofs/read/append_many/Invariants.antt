use Rattle.std.proofs.Common.{◌≡◌, ◌≤◌, ◌++◌, ◌-◌, replicate}
use Rattle.gfx_clear_runs.proofs.read.append_many.Given as goal

abbrev pub invariant-blocks-2 : goal.invariant-blocks-2
invariant-blocks-2 l = record { so_far : l.out ≡ l.fn.out ++ replicate (l.fn.count - l.left) l.fn.colour; within : l.left ≤ l.fn.count }

abbrev pub decreases-blocks-2 : goal.decreases-blocks-2
decreases-blocks-2 l = l.left
