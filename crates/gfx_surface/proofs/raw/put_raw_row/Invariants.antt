use Rattle.std.proofs.Common.{◌-◌, ◌≤◌, get_or}
use Rattle.gfx_base.specs.Geometry.{holds}
use Rattle.gfx_surface.specs.Picture.{raw_pixels, no_pixel}
use Rattle.gfx_surface.specs.Where.{WritesWhere, run_in}
use Rattle.gfx_surface.proofs.raw.put_raw_row.Given as goal

-- the first pixels are put
abbrev pub invariant-runs : goal.invariant-runs
invariant-runs l =
    (l.done ≤ l.pixels)
    × WritesWhere l.grid.width l.grid.height (holds (run_in l.x l.y l.done)) (λ i _. get_or (raw_pixels l.format l.bytes) (i - l.x) no_pixel) l.initial.cells l.cells

abbrev pub decreases-runs : goal.decreases-runs
decreases-runs l = l.pixels - l.done
