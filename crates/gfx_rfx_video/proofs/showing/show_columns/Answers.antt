use Rattle.gfx_rfx_video.specs.Inside.{corner_of, painted_at}
use Rattle.gfx_rfx_video.proofs.Parts.{both-columns, columns-ordered, on-ok}
use Rattle.gfx_rfx_video.proofs.showing.show_columns.Goals as goal

pub returns-clause-shown : goal.returns-clause-shown
returns-clause-shown c =
    let ordered = columns-ordered c.args.surface.now.width c.args.surface.now.height c.args.tile c.border-middle.result c.requires.part.inside c.border-middle.ensures in
    on-ok c.show_rows-2.result _ _
    (both-columns c.args.canvas.now c.args.surface.now c.show_rows.new.surface c.show_rows-2.new.surface (corner_of c.args.tile) c.args.tile c.border-middle.result (painted_at c.args.corner c.args.areas.now)
    ordered.0 ordered.1 (rw c.corner_of-at.ensures at c.in_ok-show_rows.ensures.shown)) (rw c.corner_of-at.ensures at c.show_rows-2.ensures.shown)
