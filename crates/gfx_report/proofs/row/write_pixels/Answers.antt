use Rattle.gfx_report.specs.Texts.{pixel_digits}
use Rattle.gfx_report.proofs.Writing.{Sent_cut, Sent_front, Sent_broken, Writes_failed}
use Rattle.gfx_report.proofs.row.write_pixels.Goals as goal

pub returns-in_err-write_piece : goal.returns-in_err-write_piece
returns-in_err-write_piece g c =
    let cut = Sent_cut pixel_digits _ _ _ _ _ _ c.split_at.ensures.front c.split_at.ensures.back c.pieces.invariant in
    Writes_failed c.from_residual.result _ _ c.from_residual.ensures.0
    (Sent_broken _ _ _ _ _ _ _ _ _ cut c.in_err-write_piece.ensures)

pub pieces-preserved : goal.pieces-preserved
pieces-preserved g c =
    let cut = Sent_cut pixel_digits _ _ _ _ _ _ c.split_at.ensures.front c.split_at.ensures.back c.pieces.invariant in
    Sent_front _ _ _ _ _ _ _ _ _ cut c.in_ok-write_piece.ensures
