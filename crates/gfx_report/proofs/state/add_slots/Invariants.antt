use Rattle.std.proofs.Common.{length}
use Rattle.std.specs.FinMap.{entries}
use Rattle.gfx_base.proofs.MapLemmas.{from_key}
use Rattle.gfx_report.specs.StateBytes.{slot_bytes, slots_bytes}
use Rattle.gfx_report.proofs.TookLemmas.{Owes}
use Rattle.gfx_report.proofs.StateEntries.{bytes_from}
use Rattle.gfx_report.proofs.state.add_slots.Given as goal

abbrev pub invariant-slots : goal.invariant-slots
invariant-slots l =
    Owes l.fn.hasher l.hasher (slots_bytes l.fn.cache.slots) (bytes_from slot_bytes l.fn.cache.slots l.from)

abbrev pub decreases-slots : goal.decreases-slots
decreases-slots l = length (from_key l.from (entries l.fn.cache.slots))
