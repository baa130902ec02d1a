use Rattle.std.proofs.Common.{◌+◌, ◌≤◌}
use Rattle.gfx_base.specs.Geometry.{height_of, holds, moved}
use Rattle.gfx_surface.specs.Where.{WritesWhere, taken_from}
use Rattle.gfx_surface.proofs.moves.move_down.Given as goal

-- the last rows are taken
abbrev pub invariant-rows : goal.invariant-rows
invariant-rows l =
    (l.i ≤ height_of l.rect)
    × WritesWhere l.grid.width l.grid.height (holds (record (moved l.rect l.to) { top = l.to.y + l.i }))
    (taken_from l.grid.width l.initial.cells l.rect l.to) l.initial.cells l.cells

abbrev pub decreases-rows : goal.decreases-rows
decreases-rows l = l.i
