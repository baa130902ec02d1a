-- Which places of cells a call writes.
use Rattle.std.specs.Prelude.{◌≡◌, ℕ, ◌+◌, ◌-◌, ◌<◌, ◌/◌, ◌%◌, ◌&&◌, nat_eq, nat_lt, Bool, List, if◌then◌else◌}
use Rattle.std.specs.List.{slice_index_or}
use Rattle.gfx_base.specs.declared.geometry.Cell.{Cell}
use Rattle.gfx_base.specs.declared.geometry.Point.{Point}
use Rattle.gfx_base.specs.declared.geometry.Rect.{Rect}
use Rattle.gfx_base.specs.declared.pixel.Pixel.{Pixel}
use Rattle.gfx_base.specs.Geometry.{holds, width_of, height_of}
use Rattle.gfx_surface.specs.Cells.{place, kept_at}

-- each place that the test names has the pixel of its column and row, and each other place is as it was
abbrev pub WritesWhere : ℕ → ℕ → (ℕ → ℕ → Bool) → (ℕ → ℕ → Pixel) → List Pixel → List Pixel → Type 0
WritesWhere width height test f old new =
    (x y : ℕ) (d : Pixel) → x < width → y < height
    → slice_index_or new (place width x y) d ≡ (if test x y then f x y else slice_index_or old (place width x y) d)

-- so many columns of row y, from column x on
abbrev pub run_in : ℕ → ℕ → ℕ → Rect
run_in x y count = record { left = x; top = y; right = x + count; bottom = y + 1 }

-- the pixel that cells of this width have for a place, once a rectangle of theirs is taken to a point
abbrev pub taken_from : ℕ → List Pixel → Rect → Point → ℕ → ℕ → Pixel
taken_from width cells rect to x y = kept_at width cells (x - to.x + rect.left) (y - to.y + rect.top)

-- the rectangle is one cell, all of it on the surface
pub record IsWholeCell (rect : Rect) : Type 0 where
  pub column : rect.left % 64 ≡ 0
  pub row : rect.top % 64 ≡ 0
  pub wide : width_of rect ≡ 64
  pub high : height_of rect ≡ 64

-- what a rectangle has of a cell
abbrev pub in_cell : Cell → Rect → ℕ → ℕ → Bool
in_cell cell rect x y = nat_eq (x / 64) cell.x && nat_eq (y / 64) cell.y && holds rect x y

-- what a rectangle has of the cells of a row before a column
abbrev pub in_cells : ℕ → ℕ → Rect → ℕ → ℕ → Bool
in_cells column row rect x y = nat_lt (x / 64) column && nat_eq (y / 64) row && holds rect x y

-- what a rectangle has of a row of cells
abbrev pub in_row_of_cells : ℕ → Rect → ℕ → ℕ → Bool
in_row_of_cells row rect x y = nat_eq (y / 64) row && holds rect x y

-- what a rectangle has of the rows of cells before one
abbrev pub in_rows_of_cells : ℕ → Rect → ℕ → ℕ → Bool
in_rows_of_cells row rect x y = nat_lt (y / 64) row && holds rect x y
