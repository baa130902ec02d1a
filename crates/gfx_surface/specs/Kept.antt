-- Cells of a surface as they stood before they were drawn on, and what is put back of them (this project's own rule).
use Rattle.std.specs.Prelude.{◌≡◌, ℕ, ◌<◌, ◌+◌, ◌*◌, ◌/◌, ◌&&◌, nat_eq, nat_lt, false, Bool, List, [], ◌∷◌, length, map}
use Rattle.std.specs.List.{Contains, slice_index_or}
use Rattle.gfx_base.specs.declared.geometry.Cell.{Cell}
use Rattle.gfx_base.specs.declared.pixel.Pixel.{Pixel}
use Rattle.gfx_base.specs.Cells.{cell, cells_along}
use Rattle.gfx_surface.specs.declared.TheConstants.{MOST_SIDE}
use Rattle.gfx_surface.specs.declared.kept_cell.KeptCell.{KeptCell}
use Rattle.gfx_surface.specs.Picture.{Picture, pixel_at, redrawn}
use Rattle.gfx_surface.specs.Views.{IsCellOf, with_cell}

-- the cell is one of those of a picture of these sides
abbrev pub lies_on : ℕ → ℕ → Cell → Bool
lies_on width height cell = nat_lt cell.x (cells_along width) && nat_lt cell.y (cells_along height)

-- the kept cell is this one, as it stands on the picture
pub record IsKeptOf (cell : Cell) (picture : Picture) (kept : KeptCell) : Type 0 where
  pub cell_is : kept.cell ≡ cell
  pub pixels_are : IsCellOf picture cell kept.pixels.items

-- the kept cells, in their order
abbrev pub cells_of : List KeptCell → List Cell
cells_of log = map (λ kept. kept.cell) log

-- the cell is one of those kept
abbrev pub IsKept : Cell → List KeptCell → Type 0
IsKept cell log = Contains (cells_of log) cell

-- the number of a cell, row by row on a surface of the longest sides
abbrev pub number_of : Cell → ℕ
number_of cell = cell.y * cells_along MOST_SIDE + cell.x

-- the cell at this place of a list
abbrev pub cell_at : List Cell → ℕ → Cell
cell_at cells i = slice_index_or cells i (cell 0 0)

-- each of these cells may lie on a surface, and the place of its number says where it stands among them
pub record AreFound (cells : List Cell) (places : List ℕ) : Type 0 where
  pub narrow : (i : ℕ) → i < length cells → (cell_at cells i).x < cells_along MOST_SIDE
  pub noted : (i : ℕ) → i < length cells → number_of (cell_at cells i) < length places
  pub found : (i : ℕ) → i < length cells → slice_index_or places (number_of (cell_at cells i)) 0 ≡ i

-- all cells are put back, the one that was kept last first
abbrev pub put_back : List KeptCell → Picture → Picture
put_back [] picture = picture
put_back (kept ∷ log) picture = with_cell (put_back log picture) kept.cell kept.pixels.items

-- no pixel is other than before but those of this cell
pub record ChangesOnly (cell : Cell) (old new : Picture) : Type 0 where
  pub pixels : ℕ → ℕ → Pixel
  pub picture : new ≡ redrawn old pixels
  pub outside : (x y : ℕ) → x < old.width → y < old.height
      → (nat_eq (x / 64) cell.x && nat_eq (y / 64) cell.y) ≡ false → pixels x y ≡ pixel_at old x y

-- whatever is drawn on this cell, what was put back before is still put back
abbrev pub KeepsCell : Cell → Picture → List KeptCell → List KeptCell → Type 0
KeepsCell cell now log more =
    (later : Picture) → ChangesOnly cell now later → (before : Picture) → put_back log now ≡ before → put_back more later ≡ before
