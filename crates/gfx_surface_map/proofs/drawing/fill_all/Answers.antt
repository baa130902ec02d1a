use Rattle.std.proofs.Common.{take}
use Rattle.gfx_surface_map.proofs.PaintedLemmas.{lies_in-painted}
use Rattle.gfx_surface_map.proofs.drawing.fill_all.Goals as goal

pub fill-requires : goal.fill-requires
fill-requires c =
    lies_in-painted c.args.surface.now c.rects.surface (take c.rects.rect-index c.args.rects.now) c.args.rects.now c.args.colour c.rects.rect-index _
    c.requires c.rects.invariant c.rects-test.true
