use Rattle.std.proofs.Common.{length}
use Rattle.gfx_clear_runs.specs.Views.{spelling}
use Rattle.gfx_clear_runs.proofs.Putting.{Due}
use Rattle.gfx_clear_runs.proofs.write.put_runs.Given as goal

abbrev pub invariant-runs : goal.invariant-runs
invariant-runs l = Due (spelling l.coding) l.pixels l.fn.out l.rest l.out

abbrev pub decreases-runs : goal.decreases-runs
decreases-runs l = length l.rest
