use Rattle.gfx_surface.specs.Where.{WritesWhere, in_cells}
use Rattle.gfx_surface.proofs.filling.fill_row_of_cells.Given as goal

-- the cells before the column are done
abbrev pub invariant-columns : goal.invariant-columns
invariant-columns l = WritesWhere l.fn.grid.width l.fn.grid.height (in_cells l.column l.fn.row l.fn.rect) (λ _ _. l.fn.colour) l.initial.cells l.cells
