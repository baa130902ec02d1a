use Rattle.gfx_base.proofs.Streams.{FailsAfter_more}
use Rattle.gfx_report.specs.Audit.{slots_text}
use Rattle.gfx_report.proofs.Writing.{Writes-append, Writes_failed}
use Rattle.gfx_report.proofs.slots.write_slots.Goals as goal

pub returns-in_err-write_all : goal.returns-in_err-write_all
unfolding slots_text
returns-in_err-write_all g c =
    let fails = rw (c.as_slice.ensures, c.slots_line.ensures) at c.in_err-write_all.ensures in
    Writes_failed c.from_residual.result _ _ c.from_residual.ensures.0 (FailsAfter_more _ _ _ fails)

pub returns : goal.returns
unfolding slots_text
returns g c =
    let gains = rw (c.as_slice.ensures, c.slots_line.ensures) at c.in_ok-write_all.ensures in
    Writes-append c.write_filled.result _ _ _ _ _ _ _ _ gains c.write_filled.ensures
