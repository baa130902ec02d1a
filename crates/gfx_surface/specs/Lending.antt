-- What a closure leaves of two pieces that it writes, which never share a place.
use Rattle.std.specs.Prelude.{◌≡◌, ℕ, ◌+◌, ◌-◌, ◌*◌, List, length, map, take, drop}
use Rattle.std.specs.List.{slice_index_or}
use Rattle.std.specs.Borrow.{MutBor}
use Rattle.std.specs.Fn.{Once}
use Rattle.gfx_base.specs.declared.format.Format.{Format}
use Rattle.gfx_base.specs.declared.geometry.Cell.{Cell}
use Rattle.gfx_base.specs.declared.pixel.Pixel.{Pixel}
use Rattle.gfx_base.specs.Cells.{cells_along}
use Rattle.gfx_surface.specs.Picture.{Picture, shade, no_pixel}
use Rattle.gfx_surface.specs.Rows.{WritesRun}
use Rattle.gfx_surface.specs.Views.{IsCellOf, IsStripOf, with_cell, with_strip}

-- what may be called with two slices
abbrev pub OfTwo : Type 0 → Type 1
OfTwo F = Once F (MutBor (List Pixel) × (MutBor (List Pixel) × Unit {0})) (Unit {0} × (MutBor (List Pixel) × (MutBor (List Pixel) × Unit {0})))

-- the closure was called with slices of these pixels, and left others there
pub record Lent {F : Type 0} (g : OfTwo F) (f : F) (first second new_first new_second : List Pixel) : Type 0 where
  pub shown : MutBor (List Pixel)
  pub other : MutBor (List Pixel)
  pub shows : shown.now ≡ first
  pub shows_other : other.now ≡ second
  pub left : MutBor (List Pixel)
  pub left_other : MutBor (List Pixel)
  pub met : g.post f (shown, (other, tt)) (tt, (left, (left_other, tt)))
  pub leaves : left.now ≡ new_first
  pub leaves_other : left_other.now ≡ new_second

-- and so it was, and the pixels are kept as the format does
pub record LentKept {F : Type 0} (g : OfTwo F) (f : F) (format : Format) (first second new_first new_second : List Pixel) : Type 0 where
  pub new : List Pixel
  pub new_other : List Pixel
  pub lent : Lent g f first second new new_other
  pub kept : new_first ≡ map (shade format) new
  pub kept_other : new_second ≡ map (shade format) new_other

-- and so it was with two pieces of a list
pub record LentOf {F : Type 0} (g : OfTwo F) (f : F) (format : Format) (first first_length second second_length : ℕ) (old new : List Pixel) : Type 0 where
  pub left : List Pixel
  pub left_other : List Pixel
  pub mid : List Pixel
  pub lent : Lent g f (take first_length (drop first old)) (take second_length (drop second old)) left left_other
  pub long : length left ≡ first_length
  pub long_other : length left_other ≡ second_length
  pub same : length mid ≡ length old
  pub writes : WritesRun first (first + first_length) (λ k. slice_index_or (map (shade format) left) (k - first) no_pixel) old mid
  pub writes_other : WritesRun second (second + second_length) (λ k. slice_index_or (map (shade format) left_other) (k - second) no_pixel) mid new

-- the closure was given two cells of a picture, which is then what it left there, cells as whole as they were
pub record PairReturns {F : Type 0} (g : OfTwo F) (f : F) (first second : Cell) (old new : Picture) : Type 0 where
  pub shown : List Pixel
  pub shown_other : List Pixel
  pub shows : IsCellOf old first shown
  pub shows_other : IsCellOf old second shown_other
  pub left : List Pixel
  pub left_other : List Pixel
  pub long : length left ≡ 4096
  pub long_other : length left_other ≡ 4096
  pub lent : Lent g f shown shown_other left left_other
  pub leaves : new ≡ with_cell (with_cell old first left) second left_other

-- the closure was given two parts of a row of cells, parted at a column of them, and left as many places in each
pub record SplitReturns {F : Type 0} (g : OfTwo F) (f : F) (row column : ℕ) (old new : Picture) : Type 0 where
  pub shown : List Pixel
  pub shown_other : List Pixel
  pub shows : IsStripOf old row 0 column shown
  pub shows_other : IsStripOf old row column (cells_along old.width) shown_other
  pub left : List Pixel
  pub left_other : List Pixel
  pub long : length left ≡ 4096 * column
  pub long_other : length left_other ≡ 4096 * (cells_along old.width - column)
  pub lent : Lent g f shown shown_other left left_other
  pub leaves : new ≡ with_strip (with_strip old row 0 column left) row column (cells_along old.width) left_other
