use Rattle.std.proofs.Common.{◌≡◌, drop, map}
use Rattle.std.specs.List.{flat_map}
use Rattle.gfx_state.specs.Written.{areas_in, clipped, rect_of_area}
use Rattle.gfx_damage.specs.Marks.{with_rects}
use Rattle.gfx_damage.proofs.adding.add_blocks.Given as goal

abbrev pub invariant-regions : goal.invariant-regions
invariant-regions l =
    with_rects l.held (map (clipped l.sides.width l.sides.height) (map rect_of_area (flat_map areas_in (drop l.block-index l.blocks))))
    ≡ with_rects l.fn.held (map (clipped l.sides.width l.sides.height) (map rect_of_area (flat_map areas_in l.blocks)))
