use Rattle.std.proofs.Common.{◌&&◌, arith, take}
use Rattle.gfx_base.specs.Geometry.{holds}
use Rattle.gfx_rfx_video.specs.Inside.{canvas_pixel, painted_at}
use Rattle.gfx_rfx_video.proofs.Drawn.{part-stays}
use Rattle.gfx_rfx_video.proofs.Parts.{before-areas, next-area}
use Rattle.gfx_rfx_video.proofs.showing.show_areas.Goals as goal

pub areas-init : goal.areas-init
areas-init c = before-areas c.args.corner c.args.at c.args.part c.args.canvas.now c.args.surface.now c.size.ensures.shape

pub show_area-requires-clause-part : goal.show_area-requires-clause-part
show_area-requires-clause-part c =
    part-stays c.args.surface.now c.areas.surface (λ x y. holds c.args.part x y && painted_at c.args.corner (take c.areas.area-index c.args.areas.now) x y) (canvas_pixel c.args.canvas.now c.args.at)
    c.args.at c.args.part c.areas.invariant c.requires.part

pub areas-preserved : goal.areas-preserved
areas-preserved c =
    next-area c.args.corner c.args.at c.args.part c.args.canvas.now c.args.surface.now c.areas.surface c.show_area.new.surface c.args.areas.now c.areas.area-index _ c.placed.result
    (omega arith) c.placed.ensures c.areas.invariant c.show_area.ensures
