-- The cells of a surface, 64 by 64 pixels each ([MS-RDPEGFX] 2.2.4.2), and how rectangles lie on them.
use Rattle.std.specs.Prelude.{ℕ, ◌+◌, ◌-◌, ◌*◌, ◌/◌, Bool, ◌&&◌, max, min, nat_lt, List, map}
use Rattle.std.specs.List.{flat_map, range_with_len}
use Rattle.gfx_base.specs.declared.geometry.Cell.{Cell}
use Rattle.gfx_base.specs.declared.geometry.Rect.{Rect}
use Rattle.gfx_base.specs.declared.geometry.TheConstants.{CELL_SIDE}

-- the cell in this column and row of cells
abbrev pub cell : ℕ → ℕ → Cell
cell x y = record { x = x; y = y }

-- how many cells a side meets, a part cell counted whole
abbrev pub cells_along : ℕ → ℕ
cells_along side = (side + (CELL_SIDE - 1)) / CELL_SIDE

-- the part of a rectangle that lies in a cell; of the rectangle of a surface's sides, the cell's part on the surface
abbrev pub cut_to_cell : Rect → Cell → Rect
cut_to_cell rect cell = record {
  left = max rect.left (CELL_SIDE * cell.x);
  top = max rect.top (CELL_SIDE * cell.y);
  right = min rect.right (CELL_SIDE * cell.x + CELL_SIDE);
  bottom = min rect.bottom (CELL_SIDE * cell.y + CELL_SIDE);
}

-- a rectangle has pixels
abbrev pub has_pixels : Rect → Bool
has_pixels rect = nat_lt rect.left rect.right && nat_lt rect.top rect.bottom

-- a rectangle has pixels in the cell
abbrev pub meets : Rect → Cell → Bool
meets rect cell = has_pixels (cut_to_cell rect cell)

-- the columns of cells, or the rows, from the one of a coordinate to the one before another
abbrev pub cells_between : ℕ → ℕ → List ℕ
cells_between from to = range_with_len (from / CELL_SIDE) (cells_along to - from / CELL_SIDE)

-- the cells that a rectangle with pixels meets, one row of cells after another
abbrev pub cells_met : Rect → List Cell
cells_met rect = flat_map (λ y. map (λ x. cell x y) (cells_between rect.left rect.right)) (cells_between rect.top rect.bottom)
