use Rattle.std.proofs.Common.{◌∙◌, inl, inr}
use Rattle.gfx_prog_decode.proofs.Areas.{part_drawn, part_missed}
use Rattle.gfx_prog_decode.proofs.showing.show_area.Goals as goal
use Rattle.gfx_prog_decode.proofs.showing.show_area.Goals.{else-part-via-then-part+else-part-2, else-part-via-else-part}

pub returns-then-part-2 : goal.returns-then-part-2
returns-then-part-2 c =
    c.copy_from.ensures
    ∙ part_drawn c.args.surface.now c.args.canvas.now c.args.cell c.overlap-part.result c.args.area c.overlap-part.ensures c.size.ensures.shape c.requires.inside
    c.if-part.true c.if-part-2.true

pub returns-else-part : goal.returns-else-part
returns-else-part c =
    part_missed c.args.surface.now c.args.canvas.now c.args.cell c.overlap-part.result c.args.area c.overlap-part.ensures c.size.ensures.shape c.requires.inside
    (elim c.else-part.branch [ else-part-via-then-part+else-part-2 w ↦ inr w.if-part-2.false | else-part-via-else-part w ↦ inl w.if-part.false ])
