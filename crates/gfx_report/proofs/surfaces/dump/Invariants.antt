use Rattle.std.proofs.Common.{length}
use Rattle.gfx_base.specs.Stream.{change}
use Rattle.gfx_base.proofs.Streams.{Sent}
use Rattle.gfx_report.specs.Texts.{dump_text}
use Rattle.gfx_report.proofs.Entries.{from_on, texts}
use Rattle.gfx_report.proofs.surfaces.dump.Given as goal

abbrev pub invariant-surfaces : goal.invariant-surfaces
invariant-surfaces g l =
    Sent (change (g.O.Sink.faults l.fn.out) (g.O.Sink.faults l.out) (g.O.Sink.held l.fn.out) (g.O.Sink.held l.out))
    (dump_text l.fn.surfaces.shown.surfaces) (texts (from_on l.fn.surfaces.shown.surfaces l.from))

abbrev pub decreases-surfaces : goal.decreases-surfaces
decreases-surfaces g l = length (from_on l.fn.surfaces.shown.surfaces l.from)
