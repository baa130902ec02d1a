use Rattle.gfx_base.proofs.Streams.{FailsAfter_more}
use Rattle.gfx_report.specs.Texts.{trial_line}
use Rattle.gfx_report.proofs.Writing.{Writes-append, Writes_failed}
use Rattle.gfx_report.proofs.trial.write_trial.Goals as goal

pub returns-in_err-write_all : goal.returns-in_err-write_all
unfolding trial_line
returns-in_err-write_all g c =
    let fails = rw (c.as_slice.ensures, c.trial_text.ensures) at c.in_err-write_all.ensures in
    Writes_failed c.from_residual.result _ _ c.from_residual.ensures.0 (FailsAfter_more _ _ _ fails)

pub returns : goal.returns
unfolding trial_line
returns g c =
    let gains = rw (c.as_slice.ensures, c.trial_text.ensures) at c.in_ok-write_all.ensures in
    let writes = rw (c.as_slice-2.ensures, c.digests_text.ensures) at c.write_all-2.ensures in
    Writes-append c.write_all-2.result _ _ _ _ _ _ _ _ gains writes
