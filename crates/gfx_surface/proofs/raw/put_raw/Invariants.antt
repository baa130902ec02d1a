use Rattle.std.proofs.Common.{◌+◌}
use Rattle.gfx_base.specs.Geometry.{holds}
use Rattle.gfx_surface.specs.Picture.{in_rect, raw_pixels}
use Rattle.gfx_surface.specs.Where.{WritesWhere}
use Rattle.gfx_surface.proofs.raw.put_raw.Given as goal

-- the first rows are put
abbrev pub invariant-rows : goal.invariant-rows
invariant-rows l =
    WritesWhere l.grid.width l.grid.height (holds (record l.rect { bottom = l.rect.top + l.i }))
    (in_rect l.rect (raw_pixels l.format l.bytes)) l.initial.cells l.cells
