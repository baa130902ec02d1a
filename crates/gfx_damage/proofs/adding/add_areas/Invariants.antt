use Rattle.std.proofs.Common.{◌≡◌, drop, map}
use Rattle.gfx_state.specs.Written.{clipped, rect_of_area}
use Rattle.gfx_damage.specs.Marks.{with_rects}
use Rattle.gfx_damage.proofs.adding.add_areas.Given as goal

abbrev pub invariant-areas : goal.invariant-areas
invariant-areas l =
    with_rects l.held (map (clipped l.sides.width l.sides.height) (map rect_of_area (drop l.area-index l.areas)))
    ≡ with_rects l.fn.held (map (clipped l.sides.width l.sides.height) (map rect_of_area l.areas))
