use Rattle.std.proofs.Common.{◌+◌}
use Rattle.gfx_base.specs.Geometry.{holds}
use Rattle.gfx_surface.specs.Picture.{shade, in_rect}
use Rattle.gfx_surface.specs.Where.{WritesWhere}
use Rattle.gfx_surface.proofs.putting.put_rows.Given as goal

-- the first rows are put
abbrev pub invariant-rows : goal.invariant-rows
invariant-rows l =
    WritesWhere l.grid.width l.grid.height (holds (record l.rect { bottom = l.rect.top + l.i }))
    (λ x y. shade l.format (in_rect l.rect l.from x y)) l.initial.cells l.cells
