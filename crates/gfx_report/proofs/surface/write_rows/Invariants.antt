use Rattle.std.proofs.Common.{◌-◌}
use Rattle.gfx_base.specs.Stream.{change}
use Rattle.gfx_base.proofs.Streams.{Sent}
use Rattle.gfx_surface.specs.Picture.{row_of}
use Rattle.gfx_report.specs.Texts.{rows_text}
use Rattle.gfx_report.proofs.Lines.{lines}
use Rattle.gfx_report.proofs.surface.write_rows.Given as goal

abbrev pub invariant-rows : goal.invariant-rows
invariant-rows g l =
    Sent (change (g.O.Sink.faults l.fn.out) (g.O.Sink.faults l.out) (g.O.Sink.held l.fn.out) (g.O.Sink.held l.out))
    (rows_text (row_of l.fn.surface) l.fn.surface.height)
    (lines (row_of l.fn.surface) l.y (l.fn.surface.height - l.y))
