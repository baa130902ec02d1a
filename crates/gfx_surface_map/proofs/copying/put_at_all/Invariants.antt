use Rattle.std.proofs.Common.{◌≡◌, take}
use Rattle.gfx_surface_map.specs.Shown.{stamped}
use Rattle.gfx_surface_map.proofs.copying.put_at_all.Given as goal

-- the points so far have their pixels, and the sides are as they were
abbrev pub invariant-points : goal.invariant-points
invariant-points l = record {
  width : l.surface.width ≡ l.initial.surface.width;
  height : l.surface.height ≡ l.initial.surface.height;
  done : l.surface ≡ stamped l.rect l.pixels (take l.point-index l.points) l.initial.surface;
}
