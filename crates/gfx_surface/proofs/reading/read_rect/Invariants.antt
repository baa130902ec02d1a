use Rattle.std.proofs.Common.{◌+◌}
use Rattle.gfx_base.specs.Geometry.{sized, width_of}
use Rattle.gfx_surface.specs.Cells.{kept_at}
use Rattle.gfx_surface.specs.Rows.{WritesRows}
use Rattle.gfx_surface.proofs.reading.read_rect.Given as goal

-- the first rows are read
abbrev pub invariant-rows : goal.invariant-rows
invariant-rows l =
    WritesRows (width_of l.rect) (sized (width_of l.rect) l.i)
    (λ x y. kept_at l.grid.width l.cells (x + l.rect.left) (y + l.rect.top)) l.initial.out l.out
