use Rattle.gfx_base.proofs.Streams.{FailsAfter_more}
use Rattle.gfx_report.specs.Texts.{output_text}
use Rattle.gfx_report.proofs.Writing.{Writes-append, Writes_failed}
use Rattle.gfx_report.proofs.output.write_output.Goals as goal

pub returns-in_err-write_output_line : goal.returns-in_err-write_output_line
unfolding output_text
returns-in_err-write_output_line g c =
    let fails = rw c.output_size-width.ensures at c.in_err-write_output_line.ensures in
    Writes_failed c.from_residual.result _ _ c.from_residual.ensures.0 (FailsAfter_more _ _ _ fails)

pub returns : goal.returns
unfolding output_text
returns g c =
    let gains = rw c.output_size-width.ensures at c.in_ok-write_output_line.ensures in
    Writes-append c.write_output_rows.result _ _ _ _ _ _ _ _ gains c.write_output_rows.ensures
