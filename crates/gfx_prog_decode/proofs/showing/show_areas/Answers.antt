use Rattle.std.proofs.Common.{arith}
use Rattle.gfx_prog_decode.proofs.Areas.{next_shown, none_shown}
use Rattle.gfx_prog_decode.proofs.showing.show_areas.Goals as goal

pub areas-init : goal.areas-init
areas-init c = none_shown c.args.surface.now c.args.canvas.now c.cell_in-cell.result c.size.ensures.shape

pub areas-preserved : goal.areas-preserved
areas-preserved c =
    next_shown c.args.surface.now c.areas.surface c.show_area.new.surface c.args.canvas.now c.cell_in-cell.result c.args.areas.now c.areas.area-index _
    (omega arith) c.areas.invariant c.show_area.ensures
