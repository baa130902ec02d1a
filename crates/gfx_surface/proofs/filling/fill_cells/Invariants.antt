use Rattle.gfx_surface.specs.Where.{WritesWhere, in_rows_of_cells}
use Rattle.gfx_surface.proofs.filling.fill_cells.Given as goal

-- the rows of cells before this one are done
abbrev pub invariant-rows : goal.invariant-rows
invariant-rows l = WritesWhere l.fn.grid.width l.fn.grid.height (in_rows_of_cells l.row l.fn.rect) (λ _ _. l.fn.colour) l.initial.cells l.cells
