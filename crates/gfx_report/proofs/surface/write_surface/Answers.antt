use Rattle.gfx_base.proofs.Streams.{FailsAfter_more}
use Rattle.gfx_report.specs.Texts.{surface_text}
use Rattle.gfx_report.proofs.Writing.{Writes-append, Writes_failed}
use Rattle.gfx_report.proofs.surface.write_surface.Goals as goal

pub returns-in_err-write_surface_line : goal.returns-in_err-write_surface_line
unfolding surface_text
returns-in_err-write_surface_line g c =
    Writes_failed c.from_residual.result _ _ c.from_residual.ensures.0
    (FailsAfter_more _ _ _ c.in_err-write_surface_line.ensures)

pub returns : goal.returns
unfolding surface_text
returns g c =
    Writes-append c.write_rows.result _ _ _ _ _ _ _ _ c.in_ok-write_surface_line.ensures c.write_rows.ensures
