-- The bands that a server writes for a picture: this project's own choice among those that
-- [MS-RDPEGFX] 2.2.4.1.1.2 allows.
use Rattle.std.specs.Prelude.{◌≡◌, ℕ, zero, suc, ◌+◌, ◌-◌, ◌*◌, min, List, [], ◌∷◌, ◌++◌, length, slice_index_or, Option, Some, None, if◌then◌else◌}
use Rattle.std.specs.List.{flat_map}
use Rattle.std.specs.Int.{w16, to_le_bytes}
use Rattle.gfx_base.specs.declared.pixel.Rgb.{Rgb}
use Rattle.gfx_base.specs.Colour.{same_colour}
use Rattle.gfx_clear_store.specs.Rings.{Rings, Marked, with_mark, least_place, with_bar, with_short}
use Rattle.gfx_clear_store.specs.declared.store.TheConstants.{MOST_BAR}
use Rattle.gfx_clear_bands.specs.declared.word.TheConstants.{HIT, SHORT_HIT, OFF}

abbrev pub black : Rgb
black = record { b = 0; g = 0; r = 0 }

-- so many pixels of a picture, one below the other, the first at this place
unfoldable pub column : ℕ → List Rgb → ℕ → ℕ → List Rgb
column width pixels at zero = []
column width pixels at (suc n) = slice_index_or pixels at black ∷ column width pixels (at + width) n

-- pixels without the background at their front
unfoldable pub without_front : Rgb → List Rgb → List Rgb
without_front background [] = []
without_front background (c ∷ cs) = if same_colour c background then without_front background cs else c ∷ cs

-- a pixel before others that end with no background
abbrev pub before : Rgb → Rgb → List Rgb → List Rgb
before background c [] = if same_colour c background then [] else c ∷ []
before background c (d ∷ ds) = c ∷ (d ∷ ds)

-- pixels without the background at their end
unfoldable pub without_end : Rgb → List Rgb → List Rgb
without_end background [] = []
without_end background (c ∷ cs) = before background c (without_end background cs)

-- a column from its first to its last pixel that isn't background
abbrev pub short_of : Rgb → List Rgb → List Rgb
short_of background pixels = without_end background (without_front background pixels)

-- nothing begins in row 0
abbrev pub row_unless_none : List Rgb → ℕ → ℕ
row_unless_none [] row = 0
row_unless_none (c ∷ cs) row = row

-- the row where that begins
abbrev pub row_of : Rgb → List Rgb → ℕ
row_of background pixels = row_unless_none (short_of background pixels) (length pixels - length (without_front background pixels))

abbrev pub colour_bytes : Rgb → List ℕ
colour_bytes c = c.b ∷ (c.g ∷ (c.r ∷ []))

-- what is sent, and the rings after it
pub record Sent : Type 0 where
  pub bytes : List ℕ
  pub rings : Rings

abbrev pub sends : List ℕ → Rings → Sent
sends bytes rings = record { bytes = bytes; rings = rings }

-- a column that no bar is, by the place of its short if it has one
abbrev pub sent_short : Rings → List Rgb → ℕ → List Rgb → Option ℕ → Sent
sent_short old pixels on short (Some place) = sends (to_le_bytes w16 (SHORT_HIT + place) ++ on ∷ []) (with_bar pixels old)
sent_short old pixels on short None =
    sends (to_le_bytes w16 (on + OFF * (on + length short)) ++ flat_map colour_bytes short) (with_bar pixels (with_short short old))

-- a column, by the place of its bar if it has one
abbrev pub sent_bar : Rings → Rgb → List Rgb → Option ℕ → Sent
sent_bar old background pixels (Some place) = sends (to_le_bytes w16 (HIT + place)) old
sent_bar old background pixels None =
    sent_short old pixels (row_of background pixels) (short_of background pixels) (least_place (short_of background pixels) old.shorts)

-- a column is a hit on the least place that holds it, or a hit on the least place that holds its short, or a miss
unfoldable pub sent : Rings → Rgb → List Rgb → Sent
sent old background pixels = sent_bar old background pixels (least_place pixels old.bars)

-- what a picture is sent as: heads of bands, and columns on a background
pub data Element : Type 0 where
  Head : List ℕ → Element
  Column : Rgb → List Rgb → Element

unfoldable pub put : Rings → Element → Sent
put old (Head bytes) = sends bytes old
put old (Column background pixels) = sent old background pixels

-- all their bytes
unfoldable pub written : Rings → List Element → List ℕ
written old [] = []
written old (e ∷ es) = (put old e).bytes ++ written (put old e).rings es

-- the rings after all of them
unfoldable pub after : Rings → List Element → Rings
after old [] = old
after old (e ∷ es) = after (put old e).rings es

-- the head of a band over the whole width
unfoldable pub head_bytes : ℕ → ℕ → ℕ → Rgb → List ℕ
head_bytes width top rows background =
    to_le_bytes w16 0 ++ (to_le_bytes w16 (width - 1) ++ (to_le_bytes w16 top ++ (to_le_bytes w16 (top + rows - 1) ++ colour_bytes background)))

-- so many columns, the first from this place down
unfoldable pub columns_of : ℕ → List Rgb → Rgb → ℕ → ℕ → ℕ → List Element
columns_of width pixels background rows at zero = []
columns_of width pixels background rows at (suc n) = Column background (column width pixels at rows) ∷ columns_of width pixels background rows (at + 1) n

-- a band of so many rows on the colour of its top left pixel
abbrev pub band_elements : ℕ → List Rgb → ℕ → ℕ → List Element
band_elements width pixels top rows =
    Head (head_bytes width top rows (slice_index_or pixels (top * width) black))
    ∷ columns_of width pixels (slice_index_or pixels (top * width) black) rows (top * width) width

-- bands of 52 rows, the last with what is left; there are no more of them than rows
unfoldable pub elements_within : ℕ → ℕ → List Rgb → ℕ → ℕ → List Element
elements_within zero width pixels top rows = []
elements_within (suc most) width pixels top zero = []
elements_within (suc most) width pixels top (suc rows) =
    band_elements width pixels top (min MOST_BAR (suc rows))
    ++ elements_within most width pixels (top + min MOST_BAR (suc rows)) (suc rows - min MOST_BAR (suc rows))

-- a picture of these sides
abbrev pub elements : ℕ → ℕ → List Rgb → List Element
elements width height pixels = elements_within height width pixels 0 height

-- a store and a list of bytes
pub record Output : Type 0 where
  pub store : Marked Rings
  pub bytes : List ℕ

abbrev pub output : Marked Rings → List ℕ → Output
output store bytes = record { store = store; bytes = bytes }

-- once these are written
abbrev pub with_written : Output → List Element → Output
with_written old es = output (with_mark (after old.store.held es) old.store.marked) (old.bytes ++ written old.store.held es)

-- the first of these are written
pub record WritesPart (es : List Element) (old new : Output) : Type 0 where
  pub done : List Element
  pub left : List Element
  pub cut : es ≡ done ++ left
  pub wrote : new ≡ with_written old done
