use Rattle.std.proofs.Common.{◌+◌, ◌-◌, ◌≤◌}
use Rattle.gfx_base.specs.Geometry.{holds}
use Rattle.gfx_surface.specs.Cells.{kept_at}
use Rattle.gfx_surface.specs.Where.{WritesWhere}
use Rattle.gfx_surface.proofs.moves.move_right.Given as goal

-- the last pixels are taken
abbrev pub invariant-runs : goal.invariant-runs
invariant-runs l =
    (l.rest ≤ l.pixels)
    × WritesWhere l.grid.width l.grid.height (holds (record { left = l.x + l.rest; top = l.y; right = l.x + l.pixels; bottom = l.y + 1 }))
    (λ i _. kept_at l.grid.width l.initial.cells (i - l.x + l.left) l.top) l.initial.cells l.cells

abbrev pub decreases-runs : goal.decreases-runs
decreases-runs l = l.rest
