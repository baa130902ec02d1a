use Rattle.std.proofs.Common.{refl}
use Rattle.gfx_report.proofs.TookLemmas.{Owes_all, Owes_as, Owes_front, pixels_cut}
use Rattle.gfx_report.proofs.hashing.add_pixels.Goals as goal

pub pieces-init : goal.pieces-init
pieces-init c = Owes_all _ _ _ refl

pub pieces-preserved : goal.pieces-preserved
pieces-preserved c =
    let cut = Owes_as _ _ _ _ _ (pixels_cut _ _ _ _ c.split_at.ensures.front c.split_at.ensures.back) c.pieces.invariant in
    Owes_front _ _ _ _ _ _ cut c.add_piece.ensures
