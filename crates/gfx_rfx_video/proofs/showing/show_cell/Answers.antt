use Rattle.std.proofs.Common.{◌∙◌, sym}
use Rattle.gfx_rfx_video.specs.Inside.{canvas_pixel, painted_at}
use Rattle.gfx_rfx_video.proofs.Drawn.{part-changes}
use Rattle.gfx_rfx_video.proofs.Parts.{empty-drawn}
use Rattle.gfx_rfx_video.proofs.Undoing.{still-drawn}
use Rattle.gfx_rfx_video.proofs.showing.show_cell.Goals as goal

pub returns-then-not-has_pixels-clause-shown : goal.returns-then-not-has_pixels-clause-shown
returns-then-not-has_pixels-clause-shown c =
    empty-drawn c.args.surface.now c.args.part (painted_at c.args.corner c.args.areas.now) (canvas_pixel c.args.canvas.now c.args.at) c.size.ensures.shape
    (sym c.has_pixels.ensures ∙ c.if-not-has_pixels.true)

pub returns-clause-undo : goal.returns-clause-undo
returns-clause-undo c =
    still-drawn c.cell_of.result c.args.log.now.cells.items c.keep.new.self.cells.items c.args.surface.now c.show_areas.new.surface c.in_ok-keep.ensures.ok
    (part-changes c.args.surface.now c.show_areas.new.surface c.cell_of.result c.args.part (painted_at c.args.corner c.args.areas.now) (canvas_pixel c.args.canvas.now c.args.at) c.cell_of.ensures
    c.requires.column c.requires.row c.show_areas.ensures)
