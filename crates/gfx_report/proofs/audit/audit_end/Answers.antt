use Rattle.gfx_base.proofs.Streams.{FailsAfter-append, FailsAfter_more}
use Rattle.gfx_report.specs.Audit.{audit_end_text}
use Rattle.gfx_report.proofs.Writing.{Writes-append, Writes_failed}
use Rattle.gfx_report.proofs.audit.audit_end.Goals as goal

pub returns-in_err-write_slots : goal.returns-in_err-write_slots
unfolding audit_end_text
returns-in_err-write_slots g c =
    Writes_failed c.from_residual.result _ _ c.from_residual.ensures.0 (FailsAfter_more _ _ _ c.in_err-write_slots.ensures)

pub returns-in_err-write_stores : goal.returns-in_err-write_stores
unfolding audit_end_text
returns-in_err-write_stores g c =
    Writes_failed c.from_residual-in_err-write_stores.result _ _ c.from_residual-in_err-write_stores.ensures.0
    (FailsAfter-append _ _ _ _ _ _ _ _ c.in_ok-write_slots.ensures (FailsAfter_more _ _ _ c.in_err-write_stores.ensures))

pub returns : goal.returns
unfolding audit_end_text
returns g c =
    let tiles = rw (c.as_slice.ensures, c.tiles_line.ensures) at c.write_all.ensures in
    Writes-append c.write_all.result _ _ _ _ _ _ _ _ c.in_ok-write_slots.ensures
    (Writes-append c.write_all.result _ _ _ _ _ _ _ _ c.in_ok-write_stores.ensures tiles)
