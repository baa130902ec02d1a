use Rattle.std.proofs.Common.{◌+◌, ◌-◌, ◌≤◌}
use Rattle.gfx_base.specs.Geometry.{holds}
use Rattle.gfx_surface.specs.Cells.{kept_at}
use Rattle.gfx_surface.specs.Where.{WritesWhere, run_in}
use Rattle.gfx_surface.proofs.moves.move_left.Given as goal

-- the first pixels are taken
abbrev pub invariant-runs : goal.invariant-runs
invariant-runs l =
    (l.done ≤ l.pixels)
    × WritesWhere l.grid.width l.grid.height (holds (run_in l.x l.y l.done))
    (λ i _. kept_at l.grid.width l.initial.cells (i - l.x + l.left) l.top) l.initial.cells l.cells

abbrev pub decreases-runs : goal.decreases-runs
decreases-runs l = l.pixels - l.done
