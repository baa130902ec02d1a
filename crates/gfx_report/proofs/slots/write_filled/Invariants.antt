use Rattle.std.proofs.Common.{length}
use Rattle.std.specs.FinMap.{entries}
use Rattle.gfx_base.specs.Stream.{change}
use Rattle.gfx_base.proofs.MapLemmas.{from_key}
use Rattle.gfx_base.proofs.Streams.{Sent}
use Rattle.gfx_report.specs.Audit.{slot_line, slot_lines}
use Rattle.gfx_report.proofs.StateEntries.{bytes_from}
use Rattle.gfx_report.proofs.slots.write_filled.Given as goal

abbrev pub invariant-slots : goal.invariant-slots
invariant-slots g l =
    Sent (change (g.O.Sink.faults l.fn.out) (g.O.Sink.faults l.out) (g.O.Sink.held l.fn.out) (g.O.Sink.held l.out))
    (slot_lines l.fn.cache.slots) (bytes_from slot_line l.fn.cache.slots l.from)

abbrev pub decreases-slots : goal.decreases-slots
decreases-slots g l = length (from_key l.from (entries l.fn.cache.slots))
