use Rattle.gfx_base.proofs.Streams.{FailsAfter_more}
use Rattle.gfx_report.specs.Texts.{newline, row_line}
use Rattle.gfx_report.proofs.Writing.{Writes-append, Writes_failed}
use Rattle.gfx_report.proofs.row.write_surface_row.Goals as goal

pub returns-in_err-write_runs : goal.returns-in_err-write_runs
unfolding row_line
returns-in_err-write_runs g c =
    Writes_failed c.from_residual.result _ _ c.from_residual.ensures.0
    (FailsAfter_more _ _ newline c.in_err-write_runs.ensures)

pub returns : goal.returns
unfolding row_line
returns g c =
    Writes-append c.write_all.result _ _ _ _ _ _ _ newline c.in_ok-write_runs.ensures c.write_all.ensures
