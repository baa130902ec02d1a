use Rattle.std.proofs.Common.{◌≡◌, ◌<◌, ◌+◌, ℕ, length, take, get_or}
use Rattle.gfx_base.specs.declared.pixel.Pixel.{Pixel}
use Rattle.gfx_surface_map.specs.Composed.{composed}
use Rattle.gfx_surface_map.proofs.map.SurfaceMap.compose_part.Given as goal

-- the first maps are painted
abbrev pub invariant-maps : goal.invariant-maps
invariant-maps l =
    (x : ℕ) (d : Pixel) → x < length l.initial.out
    → get_or l.out x d ≡ composed l.self.shown.surfaces (take l.i l.self.shown.maps) (l.left + x) l.y
