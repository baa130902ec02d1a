-- Bands, read into a picture ([MS-RDPEGFX] 2.2.4.1.1.2, CLEARCODEC_BAND). The order of the checks is this
-- project's own rule.
use Rattle.std.specs.Prelude.{◌≡◌, ℕ, zero, suc, ◌+◌, ◌-◌, ◌*◌, Bool, true, ◌&&◌, nat_le, nat_lt, List, [], ◌∷◌, length, drop, slice_set, Result, Ok, Err}
use Rattle.std.specs.Int.{w16}
use Rattle.gfx_base.specs.declared.answer.Cause.{Cause}
use Rattle.gfx_base.specs.declared.answer.Cause.TheVariants.{Refused, Memory}
use Rattle.gfx_base.specs.declared.pixel.Rgb.{Rgb}
use Rattle.gfx_base.specs.declared.refusal.Refusal.{Refusal}
use Rattle.gfx_base.specs.declared.refusal.Refusal.TheVariants.{ClearLengths, BandShape}
use Rattle.gfx_base.specs.Field.{number_at}
use Rattle.gfx_base.specs.Results.{◌>>=◌, check}
use Rattle.gfx_clear_store.specs.Rings.{Rings}
use Rattle.gfx_clear_store.specs.declared.store.TheConstants.{MOST_BAR}
use Rattle.gfx_clear_bands.specs.Bars.{Bar, bar, colour_at}
use Rattle.gfx_clear_bands.specs.declared.band.Band.{Band}
use Rattle.gfx_clear_bands.specs.declared.band.TheConstants.{HEAD}

-- a picture row by row, which of its pixels are drawn, and the rings
pub record Drawing : Type 0 where
  pub colours : List Rgb
  pub drawn : List Bool
  pub rings : Rings

abbrev pub drawing : List Rgb → List Bool → Rings → Drawing
drawing colours drawn rings = record { colours = colours; drawn = drawn; rings = rings }

-- where reading ended before its end, and why
pub record Stop : Type 0 where
  pub reached : Drawing
  pub refusal : Refusal

abbrev pub stopped : Drawing → Refusal → Stop
stopped reached refusal = record { reached = reached; refusal = refusal }

-- a refusal ends the reading here
abbrev pub here : {A : Type 0} → Drawing → Result A Refusal → Result A Stop
here reached (Ok x) = Ok x
here reached (Err refusal) = Err (stopped reached refusal)

-- pixels one below the other, the first at this place
unfoldable pub drawn_down : ℕ → ℕ → List Rgb → Drawing → Drawing
drawn_down width at [] old = old
drawn_down width at (c ∷ cs) old = drawn_down width (at + width) cs (drawing (slice_set old.colours at c) (slice_set old.drawn at true) old.rings)

-- the first eleven bytes of a band
abbrev pub band_of : List ℕ → Band
band_of bytes = record {
  left = number_at w16 bytes 0;
  right = number_at w16 bytes 2;
  top = number_at w16 bytes 4;
  bottom = number_at w16 bytes 6;
  background = colour_at bytes 8;
}

-- its sides are in their order and in the picture, and it is no higher than a bar
abbrev pub is_shaped : ℕ → ℕ → Band → Bool
is_shaped width height band =
    nat_le band.left band.right && nat_lt band.right width && nat_le band.top band.bottom && nat_lt band.bottom height
    && nat_lt (band.bottom - band.top) MOST_BAR

unfoldable pub band_head : ℕ → ℕ → List ℕ → Result Band Refusal
band_head width height bytes = do
  enough ← check ClearLengths (nat_le HEAD (length bytes))
  shaped ← check BandShape (is_shaped width height (band_of bytes))
  Ok (band_of bytes)

abbrev pub height_of : Band → ℕ
height_of band = band.bottom - band.top + 1

-- a column drawn, and the bytes behind it
abbrev pub draws_bar : ℕ → Band → ℕ → Drawing → Bar → Drawing × List ℕ
draws_bar width band x old read = (drawn_down width (band.top * width + x) read.pixels (drawing old.colours old.drawn read.rings), read.rest)

-- so many columns of a band, from this one on
unfoldable pub columns : ℕ → Band → ℕ → ℕ → Drawing → List ℕ → Result (Drawing × List ℕ) Stop
columns width band zero x old bytes = Ok (old, bytes)
columns width band (suc n) x old bytes = do
  read ← here old (bar old.rings (height_of band) band.background bytes)
  columns width band n (x + 1) (draws_bar width band x old read).0 (draws_bar width band x old read).1

-- one band
unfoldable pub one_band : ℕ → ℕ → Drawing → List ℕ → Result (Drawing × List ℕ) Stop
one_band width height old bytes = do
  band ← here old (band_head width height bytes)
  columns width band (band.right + 1 - band.left) band.left old (drop HEAD bytes)

-- bands to the end of the bytes; each takes a byte at least, so as many as there are bytes suffice
unfoldable pub bands_within : ℕ → ℕ → ℕ → Drawing → List ℕ → Result Drawing Stop
bands_within most width height old [] = Ok old
bands_within zero width height old (byte ∷ bytes) = Ok old
bands_within (suc most) width height old (byte ∷ bytes) = do
  next ← one_band width height old (byte ∷ bytes)
  bands_within most width height next.0 next.1

-- what bands draw
abbrev pub bands : ℕ → ℕ → Drawing → List ℕ → Result Drawing Stop
bands width height old bytes = bands_within (length bytes) width height old bytes

-- what reading answered, and what was drawn by then; it never wants memory
abbrev pub Draws : {A : Type 0} → Result A (Cause Refusal) → Drawing → Result Drawing Stop → Type 0
Draws (Ok x) new due = due ≡ Ok new
Draws (Err (Refused refusal)) new due = due ≡ Err (stopped new refusal)
Draws (Err Memory) new due = ⊥
