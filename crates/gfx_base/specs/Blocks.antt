-- How the cells that a rectangle meets are kept: this project's own form, which no public clause names.
use Rattle.std.specs.Prelude.{ℕ, ◌+◌, ◌≤◌, List, map}
use Rattle.std.specs.List.{flat_map, range_with_len}
use Rattle.gfx_base.specs.declared.cells.Cells.TheInside as cells
use Rattle.gfx_base.specs.declared.geometry.Cell.{Cell}
use Rattle.gfx_base.specs.Cells.{cell}

-- the cells of so many columns and rows, from these on
abbrev pub block : ℕ → ℕ → ℕ → ℕ → List Cell
block left top columns rows = flat_map (λ y. map (λ x. cell x y) (range_with_len left columns)) (range_with_len top rows)

abbrev pub cells_of : cells.Inside → List Cell
cells_of a = block a.left a.top a.columns a.rows

-- no cell lies behind a coordinate of 16 bits
pub record AreNarrow (a : cells.Inside) : Type 0 where
  pub across : a.left + a.columns ≤ 1024
  pub down : a.top + a.rows ≤ 1024
