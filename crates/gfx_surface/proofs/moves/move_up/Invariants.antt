use Rattle.std.proofs.Common.{◌+◌}
use Rattle.gfx_base.specs.Geometry.{holds, moved}
use Rattle.gfx_surface.specs.Where.{WritesWhere, taken_from}
use Rattle.gfx_surface.proofs.moves.move_up.Given as goal

-- the first rows are taken
abbrev pub invariant-rows : goal.invariant-rows
invariant-rows l =
    WritesWhere l.grid.width l.grid.height (holds (record (moved l.rect l.to) { bottom = l.to.y + l.i }))
    (taken_from l.grid.width l.initial.cells l.rect l.to) l.initial.cells l.cells
