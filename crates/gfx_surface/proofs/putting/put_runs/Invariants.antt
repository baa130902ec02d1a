use Rattle.std.proofs.Common.{◌≡◌, ◌+◌, ◌-◌, ◌%◌, ◌≤◌, length, get_or}
use Rattle.gfx_base.specs.Geometry.{holds}
use Rattle.gfx_surface.specs.Cells.{place}
use Rattle.gfx_surface.specs.Picture.{shade, no_pixel}
use Rattle.gfx_surface.specs.Where.{WritesWhere, run_in}
use Rattle.gfx_surface.proofs.putting.put_runs.Given as goal

-- the first runs are put, and this is the place of the next one
abbrev pub invariant-runs : goal.invariant-runs
invariant-runs l =
    (l.done ≤ length l.from)
    × (l.done % 64 ≡ 0)
    × (l.place ≡ place l.fn.grid.width (l.x + l.done) l.y)
    × WritesWhere l.fn.grid.width l.fn.grid.height (holds (run_in l.x l.y l.done)) (λ i _. shade l.format (get_or l.from (i - l.x) no_pixel)) l.initial.cells l.cells

abbrev pub decreases-runs : goal.decreases-runs
decreases-runs l = length l.from - l.done
