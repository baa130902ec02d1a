use Rattle.std.proofs.Common.{◌+◌, ◌-◌, ◌≤◌}
use Rattle.gfx_base.specs.Geometry.{holds}
use Rattle.gfx_surface.specs.Picture.{shade}
use Rattle.gfx_surface.specs.Cells.{kept_at}
use Rattle.gfx_surface.specs.Where.{WritesWhere, run_in}
use Rattle.gfx_surface.proofs.crossing.copy_row.Given as goal

-- the first pixels are taken
abbrev pub invariant-runs : goal.invariant-runs
invariant-runs l =
    (l.done ≤ l.pixels)
    × WritesWhere l.grid.width l.grid.height (holds (run_in l.to.x l.to.y l.done))
    (λ x _. shade l.format (kept_at l.from_grid.width l.from (x - l.to.x + l.at.x) l.at.y)) l.initial.cells l.cells

abbrev pub decreases-runs : goal.decreases-runs
decreases-runs l = l.pixels - l.done
