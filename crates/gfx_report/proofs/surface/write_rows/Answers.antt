use Rattle.std.proofs.Common.{refl}
use Rattle.gfx_report.proofs.Lines.{rows_text-lines, lines_next}
use Rattle.gfx_report.proofs.Writing.{Sent_nothing, Sent_as, Sent_front, Sent_broken, Writes_failed}
use Rattle.gfx_report.proofs.surface.write_rows.Goals as goal

pub rows-init : goal.rows-init
rows-init g c = Sent_nothing _ _ _ _ (rows_text-lines _ _)

pub returns-in_err-write_surface_row : goal.returns-in_err-write_surface_row
returns-in_err-write_surface_row g c =
    let below = rw c.size-height.ensures.size at c.rows-test.true in
    let cut = Sent_as _ _ _ _ (lines_next _ _ _ _ below refl) c.rows.invariant in
    Writes_failed c.from_residual.result _ _ c.from_residual.ensures.0
    (Sent_broken _ _ _ _ _ _ _ _ _ cut c.in_err-write_surface_row.ensures)

pub rows-preserved : goal.rows-preserved
rows-preserved g c =
    let below = rw c.size-height.ensures.size at c.rows-test.true in
    let cut = Sent_as _ _ _ _ (lines_next _ _ _ _ below refl) c.rows.invariant in
    Sent_front _ _ _ _ _ _ _ _ _ cut c.in_ok-write_surface_row.ensures
