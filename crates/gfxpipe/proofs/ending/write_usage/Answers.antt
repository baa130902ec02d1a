use Rattle.gfx_base.proofs.Streams.{FailsAfter_more}
use Rattle.gfx_report.proofs.Writing.{Writes-append, Writes_failed}
use Rattle.gfxpipe.proofs.ending.write_usage.Goals as goal

pub returns-in_err-write_all : goal.returns-in_err-write_all
returns-in_err-write_all g c =
    Writes_failed c.from_residual.result _ _ c.from_residual.ensures.0
    (FailsAfter_more _ _ _ (rw c.as_bytes.ensures.value at c.in_err-write_all.ensures))

pub returns : goal.returns
returns g c =
    Writes-append c.write_all-2.result _ _ _ _ _ _ _ _ (rw c.as_bytes.ensures.value at c.in_ok-write_all.ensures) c.write_all-2.ensures
