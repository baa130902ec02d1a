use Rattle.std.proofs.Common.{refl}
use Rattle.gfx_clear_bands.specs.Writing.{colour_bytes}
use Rattle.gfx_report.proofs.TookLemmas.{Owes_all, Owes_as, Owes_front, bytes_cut}
use Rattle.gfx_report.proofs.colours.add_colours.Goals as goal

pub pieces-init : goal.pieces-init
pieces-init c = Owes_all _ _ _ refl

pub pieces-preserved : goal.pieces-preserved
pieces-preserved c =
    let cut = Owes_as _ _ _ _ _ (bytes_cut colour_bytes _ _ _ _ c.split_at.ensures.front c.split_at.ensures.back) c.pieces.invariant in
    Owes_front _ _ _ _ _ _ cut c.add_piece.ensures
