use Rattle.std.proofs.Common.{◌≡◌, drop, map}
use Rattle.gfx_state.specs.Written.{clipped}
use Rattle.gfx_damage.specs.Marks.{with_rects}
use Rattle.gfx_damage.proofs.adding.add_rects.Given as goal

abbrev pub invariant-rects : goal.invariant-rects
invariant-rects l = with_rects l.held (map (clipped l.sides.width l.sides.height) (drop l.rect-index l.rects)) ≡ with_rects l.fn.held (map (clipped l.sides.width l.sides.height) l.rects)
