use Rattle.std.proofs.Common.{◌-◌}
use Rattle.gfx_base.specs.Stream.{change}
use Rattle.gfx_base.proofs.Streams.{Sent}
use Rattle.gfx_surface_map.specs.Composed.{output_row}
use Rattle.gfx_report.specs.Texts.{rows_text}
use Rattle.gfx_report.proofs.Lines.{lines}
use Rattle.gfx_report.proofs.output.write_output_rows.Given as goal

abbrev pub invariant-rows : goal.invariant-rows
invariant-rows g l =
    Sent (change (g.O.Sink.faults l.fn.out) (g.O.Sink.faults l.out) (g.O.Sink.held l.fn.out) (g.O.Sink.held l.out))
    (rows_text (output_row l.fn.surfaces.shown) l.fn.surfaces.shown.output.height)
    (lines (output_row l.fn.surfaces.shown) l.y (l.fn.surfaces.shown.output.height - l.y))
