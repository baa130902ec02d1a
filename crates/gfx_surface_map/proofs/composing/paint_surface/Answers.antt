use Rattle.std.proofs.Common.{arith, refl}
use Rattle.gfx_surface_map.proofs.ComposedLemmas.{part_painted}
use Rattle.gfx_surface_map.proofs.composing.paint_surface.Goals as goal

pub returns-then-row-from : goal.returns-then-row-from
returns-then-row-from c =
    let high = rw c.size-height.ensures.size at c.from.ensures in
    part_painted c.args.surface.now c.args.place c.args.left c.args.y c.in-Some.row _ _ _ c.size-height.ensures.shape (omega arith) (omega arith) (omega arith) refl c.paint_run.ensures
