use Rattle.std.proofs.Common.{◌≡◌, take}
use Rattle.gfx_surface_map.specs.Surfaces.{painted}
use Rattle.gfx_surface_map.proofs.drawing.fill_all.Given as goal

-- the rectangles so far are painted
abbrev pub invariant-rects : goal.invariant-rects
invariant-rects l = l.surface ≡ painted l.initial.surface (take l.rect-index l.rects) l.colour
