use Rattle.std.proofs.Common.{◌≡◌, drop, map}
use Rattle.gfx_base.specs.Geometry.{moved}
use Rattle.gfx_state.specs.Written.{clipped}
use Rattle.gfx_damage.specs.Marks.{with_rects}
use Rattle.gfx_damage.proofs.adding.add_copies.Given as goal

abbrev pub invariant-points : goal.invariant-points
invariant-points l =
    with_rects l.held (map (clipped l.sides.width l.sides.height) (map (moved l.rect) (drop l.point-index l.points)))
    ≡ with_rects l.fn.held (map (clipped l.sides.width l.sides.height) (map (moved l.rect) l.points))
