use Rattle.std.proofs.Common.{◌+◌}
use Rattle.gfx_base.specs.Geometry.{holds, moved}
use Rattle.gfx_surface.specs.Picture.{shade}
use Rattle.gfx_surface.specs.Where.{WritesWhere, taken_from}
use Rattle.gfx_surface.proofs.crossing.copy_rect.Given as goal

-- the first rows are taken
abbrev pub invariant-rows : goal.invariant-rows
invariant-rows l =
    WritesWhere l.grid.width l.grid.height (holds (record (moved l.rect l.to) { bottom = l.to.y + l.i }))
    (λ x y. shade l.format (taken_from l.from_grid.width l.from l.rect l.to x y)) l.initial.cells l.cells
