use Rattle.std.proofs.Common.{◌-◌, drop}
use Rattle.gfx_import.specs.declared.limits.TheConstants.{MOST_ENTRIES}
use Rattle.gfx_import.proofs.TakingLemmas.{Gathers}
use Rattle.gfx_import.proofs.taking.imported.Given as goal

abbrev pub invariant-entries : goal.invariant-entries
invariant-entries l = Gathers l.server l.client l.kept (drop l.place l.client) l.small l.room.slots l.room.bytes

abbrev pub decreases-entries : goal.decreases-entries
decreases-entries l = MOST_ENTRIES - l.place
