use Rattle.std.proofs.Common.{◌-◌, drop}
use Rattle.gfx_import.specs.declared.limits.TheConstants.{MOST_ENTRIES}
use Rattle.gfx_import.specs.Offered.{offers_of}
use Rattle.gfx_import.proofs.TakingLemmas.{Counts}
use Rattle.gfx_import.proofs.taking.imported_count.Given as goal

abbrev pub invariant-entries : goal.invariant-entries
invariant-entries l = Counts l.server (offers_of l.client) (offers_of (drop l.count l.client)) l.small l.count l.room.slots l.room.bytes

abbrev pub decreases-entries : goal.decreases-entries
decreases-entries l = MOST_ENTRIES - l.count
