-- What views of cells are of, and what is written through them (this project's own rule).
use Rattle.std.specs.Prelude.{◌≡◌, ℕ, ◌+◌, ◌-◌, ◌*◌, ◌/◌, ◌%◌, ◌<◌, ◌≤◌, ◌&&◌, nat_eq, nat_le, nat_lt, min, List, length, if◌then◌else◌}
use Rattle.std.specs.List.{slice_index_or}
use Rattle.gfx_base.specs.declared.geometry.Cell.{Cell}
use Rattle.gfx_base.specs.declared.pixel.Pixel.{Pixel}
use Rattle.gfx_surface.specs.Picture.{Picture, redrawn, pixel_at, shade, no_pixel}
use Rattle.gfx_base.specs.Cells.{cells_along}

-- the cell is one of the picture's
pub record LiesOn (picture : Picture) (cell : Cell) : Type 0 where
  pub column : cell.x < cells_along picture.width
  pub row : cell.y < cells_along picture.height

-- how many columns, or rows, of this one of the cells along a side lie on the side
abbrev pub part_of : ℕ → ℕ → ℕ
part_of side cell = min 64 (side - 64 * cell)

-- the place lies in the part of the cell that is the picture's
pub record IsInCell (picture : Picture) (column row x y : ℕ) : Type 0 where
  pub across : x < part_of picture.width column
  pub down : y < part_of picture.height row

-- a picture with this pixel at column x of row y, as its format keeps it
unfoldable pub with_pixel : Picture → ℕ → ℕ → Pixel → Picture
with_pixel picture x y pixel =
    redrawn picture (λ i j. if nat_eq i x && nat_eq j y then shade picture.format pixel else pixel_at picture i j)

-- a picture with what it has of the cell from these pixels, row by row in rows of 64, as its format keeps them
unfoldable pub with_cell : Picture → Cell → List Pixel → Picture
with_cell picture cell pixels =
    redrawn picture (λ x y. if nat_eq (x / 64) cell.x && nat_eq (y / 64) cell.y
    then shade picture.format (slice_index_or pixels (y % 64 * 64 + x % 64) no_pixel) else pixel_at picture x y)

-- these pixels are those of the cell, row by row in rows of 64; what lies beyond the picture is not said
pub record IsCellOf (picture : Picture) (cell : Cell) (pixels : List Pixel) : Type 0 where
  pub long : length pixels ≡ 4096
  pub each : (x y : ℕ) → x < part_of picture.width cell.x → y < part_of picture.height cell.y
      → slice_index_or pixels (y * 64 + x) no_pixel ≡ pixel_at picture (64 * cell.x + x) (64 * cell.y + y)

-- these pixels are those of a row of cells, from one column of them up to another, cell by cell
pub record IsStripOf (picture : Picture) (row from to : ℕ) (pixels : List Pixel) : Type 0 where
  pub long : length pixels ≡ 4096 * (to - from)
  pub each : (column x y : ℕ) → from ≤ column → column < to → x < part_of picture.width column → y < part_of picture.height row
      → slice_index_or pixels ((column - from) * 4096 + (y * 64 + x)) no_pixel ≡ pixel_at picture (64 * column + x) (64 * row + y)

-- a picture with what it has of a row of cells, from one column of them up to another, from these pixels
unfoldable pub with_strip : Picture → ℕ → ℕ → ℕ → List Pixel → Picture
with_strip picture row from to pixels =
    redrawn picture (λ x y. if nat_eq (y / 64) row && nat_le from (x / 64) && nat_lt (x / 64) to
    then shade picture.format (slice_index_or pixels ((x / 64 - from) * 4096 + (y % 64 * 64 + x % 64)) no_pixel) else pixel_at picture x y)
