use Rattle.std.proofs.Common.{drop}
use Rattle.gfx_import.proofs.TakingLemmas.{Counts}
use Rattle.gfx_import.proofs.taking.count_taken.Given as goal

abbrev pub invariant-offers : goal.invariant-offers
invariant-offers l = Counts l.server l.offers (drop l.count l.offers) l.small l.count l.room.slots l.room.bytes

abbrev pub decreases-offers : goal.decreases-offers
decreases-offers l = l.room.slots
