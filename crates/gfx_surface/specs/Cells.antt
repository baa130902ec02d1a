-- Where a surface keeps its pixels: cells of 64 by 64, by row and then column, each with its own 4,096
-- places, row by row (this project's own rule). A part cell has as many places as a whole one.
use Rattle.std.specs.Prelude.{ℕ, ◌+◌, ◌*◌, ◌/◌, ◌%◌, List}
use Rattle.std.specs.List.{slice_index_or}
use Rattle.gfx_base.specs.Cells.{cells_along}
use Rattle.gfx_base.specs.declared.pixel.Pixel.{Pixel}
use Rattle.gfx_surface.specs.Picture.{no_pixel, drawn}

-- how many places the cells of these sides have
abbrev pub places : ℕ → ℕ → ℕ
places width height = 4096 * (cells_along width * cells_along height)

-- where the places of a cell begin
abbrev pub cell_start : ℕ → ℕ → ℕ → ℕ
cell_start width column row = (row * cells_along width + column) * 4096

-- the place of column x of row y
unfoldable pub place : ℕ → ℕ → ℕ → ℕ
place width x y = cell_start width (x / 64) (y / 64) + (y % 64 * 64 + x % 64)

-- the pixel that cells have for column x of row y
abbrev pub kept_at : ℕ → List Pixel → ℕ → ℕ → Pixel
kept_at width cells x y = slice_index_or cells (place width x y) no_pixel

-- what cells show, row by row
abbrev pub shown : ℕ → ℕ → List Pixel → List Pixel
shown width height cells = drawn width height (kept_at width cells)
