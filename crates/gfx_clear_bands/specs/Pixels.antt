-- Which pixel of a picture is drawn, and which stays: this project's own laws, in columns and rows counted from the
-- picture's top left, as [MS-RDPEGFX] 2.2.4.1.1.2 (bands) and 2.2.4.1.1.3 (subcodecs) place what they draw.
use Rattle.std.specs.Prelude.{◌≡◌, ℕ, ◌+◌, ◌-◌, ◌*◌, ◌<◌, ◌≤◌, Bool, true, false, List, [], ◌∷◌, length, drop, slice_index_or, Ok}
use Rattle.std.specs.Int.{w16}
use Rattle.gfx_base.specs.Field.{number_at}
use Rattle.gfx_base.specs.declared.pixel.Rgb.{Rgb}
use Rattle.gfx_clear_store.specs.Rings.{Rings}
use Rattle.gfx_clear_bands.specs.Bars.{Bar, bar, colour_at}
use Rattle.gfx_clear_bands.specs.Bands.{Drawing, one_band}
use Rattle.gfx_clear_bands.specs.Writing.{black}
use Rattle.gfx_clear_bands.specs.declared.band.TheConstants.{HEAD}

-- the colour in column x of row y, and whether it is drawn, in a picture of which each row has so many pixels
abbrev pub pixel_at : ℕ → Drawing → ℕ → ℕ → Rgb × Bool
pixel_at across picture x y =
    (slice_index_or picture.colours (y * across + x) black, slice_index_or picture.drawn (y * across + x) false)

-- column x of row y is in the rectangle of these sides whose top left is there
pub record IsIn (left top wide high x y : ℕ) : Type 0 where
  pub from_left : left ≤ x
  pub to_right : x < left + wide
  pub from_top : top ≤ y
  pub to_bottom : y < top + high

-- such a rectangle was drawn, in these colours by column and row of its own; all else is as before
pub record Shows (across left top wide high : ℕ) (colour : ℕ → ℕ → Rgb) (old new : Drawing) : Type 0 where
  pub inside : (x y : ℕ) → IsIn left top wide high x y → pixel_at across new x y ≡ (colour (x - left) (y - top), true)
  pub outside : (x y : ℕ) → x < across → (IsIn left top wide high x y → ⊥) → pixel_at across new x y ≡ pixel_at across old x y

-- colours that are listed row by row, so many in each
abbrev pub row_by_row : ℕ → List Rgb → ℕ → ℕ → Rgb
row_by_row wide colours x y = slice_index_or colours (y * wide + x) black

-- and those that are listed column by column
abbrev pub by_columns : List (List Rgb) → ℕ → ℕ → Rgb
by_columns columns x y = slice_index_or (slice_index_or columns x []) y black

-- these columns are read one after another, of so many rows, and leave these rings and bytes
abbrev pub ReadsColumns : Rings → ℕ → Rgb → List ℕ → List (List Rgb) → Rings → List ℕ → Type 0
ReadsColumns old rows background bytes [] new rest = (new ≡ old) × (rest ≡ bytes)
ReadsColumns old rows background bytes (column ∷ columns) new rest =
    (read : Bar) × (bar old rows background bytes ≡ Ok read) × (read.pixels ≡ column) × (length column ≡ rows)
    × ReadsColumns read.rings rows background read.rest columns new rest

-- a band of a picture of these sides draws the columns that it is read as, in the rectangle that its head says:
-- its left and right columns, and its top and bottom rows, all four included
abbrev pub BandShows : Type 0
BandShows =
    (width height : ℕ) (old new : Drawing) (bytes rest : List ℕ) → length old.colours ≡ width * height → length old.drawn ≡ width * height
    → one_band width height old bytes ≡ Ok (new, rest)
    → (columns : List (List Rgb))
    × (length columns ≡ number_at w16 bytes 2 + 1 - number_at w16 bytes 0)
    × ReadsColumns old.rings (number_at w16 bytes 6 + 1 - number_at w16 bytes 4) (colour_at bytes 8) (drop HEAD bytes) columns new.rings rest
    × Shows width (number_at w16 bytes 0) (number_at w16 bytes 4) (number_at w16 bytes 2 + 1 - number_at w16 bytes 0) (number_at w16 bytes 6 + 1 - number_at w16 bytes 4)
    (by_columns columns) old new
