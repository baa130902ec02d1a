use Rattle.gfx_rfx_video.specs.Inside.{painted_at}
use Rattle.gfx_rfx_video.proofs.Parts.{both-rows, on-ok, rows-ordered}
use Rattle.gfx_rfx_video.proofs.showing.show_rows.Goals as goal

pub returns-clause-shown : goal.returns-clause-shown
returns-clause-shown c =
    let ordered = rows-ordered c.args.surface.now.width c.args.surface.now.height c.args.part c.border-middle.result c.requires.part.inside c.border-middle.ensures in
    on-ok c.show_cell-2.result _ _
    (both-rows c.args.canvas.now c.args.surface.now c.show_cell.new.surface c.show_cell-2.new.surface c.args.at c.args.part c.border-middle.result (painted_at c.args.corner c.args.areas.now)
    ordered.0 ordered.1 c.in_ok-show_cell.ensures.shown) c.show_cell-2.ensures.shown
