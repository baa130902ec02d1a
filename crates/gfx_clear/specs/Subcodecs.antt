-- The third layer of a ClearCodec stream: rectangles, each by a subcodec ([MS-RDPEGFX] 2.2.4.1.1.3,
-- CLEARCODEC_SUBCODEC). Which of them there are, and the order of the checks, are this project's own rules.
use Rattle.std.specs.Prelude.{ℕ, zero, suc, ◌+◌, ◌*◌, ◌==◌, Bool, true, ◌&&◌, nat_le, List, [], ◌∷◌, ◌++◌, length, take, drop, replicate, slice_index, Result, Ok, Err, if◌then◌else◌}
use Rattle.std.specs.Int.{w16, w32}
use Rattle.gfx_base.specs.declared.pixel.Rgb.{Rgb}
use Rattle.gfx_base.specs.declared.refusal.Refusal.{Refusal}
use Rattle.gfx_base.specs.declared.refusal.Refusal.TheVariants.{ClearLengths, RectOutside, PayloadLength, SubcodecRefused}
use Rattle.gfx_base.specs.Field.{number_at}
use Rattle.gfx_base.specs.Results.{◌>>=◌, check}
use Rattle.gfx_clear_runs.specs.Reading.{covered, rlex_of}
use Rattle.gfx_clear_bands.specs.Bars.{colours}
use Rattle.gfx_clear_bands.specs.Bands.{Drawing, drawing}
use Rattle.gfx_clear.specs.declared.area.Area.{Area}
use Rattle.gfx_clear.specs.declared.area.TheConstants.{AREA, RAW, RLEX}

-- the first thirteen bytes of a subcodec's
abbrev pub area_of : List ℕ → Area
area_of bytes = record {
  x = number_at w16 bytes 0;
  y = number_at w16 bytes 2;
  width = number_at w16 bytes 4;
  height = number_at w16 bytes 6;
  size = number_at w32 bytes 8;
  codec = slice_index bytes 12;
}

abbrev pub is_inside : ℕ → ℕ → Area → Bool
is_inside width height area = nat_le (area.x + area.width) width && nat_le (area.y + area.height) height

-- a list with these items from a place on
abbrev pub overwritten : {A : Type 0} → ℕ → List A → List A → List A
overwritten at items old = take at old ++ (items ++ drop (length items) (drop at old))

abbrev pub row_drawn : ℕ → List Rgb → Drawing → Drawing
row_drawn at pixels old = drawing (overwritten at pixels old.colours) (overwritten at (replicate (length pixels) true) old.drawn) old.rings

-- so many rows, the first from this place on, in a picture of which each row has so many pixels
unfoldable pub rows_drawn : ℕ → ℕ → ℕ → ℕ → List Rgb → Drawing → Drawing
rows_drawn across width at zero pixels old = old
rows_drawn across width at (suc rows) pixels old = rows_drawn across width (at + across) rows (drop width pixels) (row_drawn at (take width pixels) old)

-- three bytes for each pixel
unfoldable pub raw_colours : ℕ → List ℕ → Result (List Rgb) Refusal
raw_colours count bytes = do
  exact ← check PayloadLength (length bytes == 3 * count)
  Ok (colours count bytes)

-- so many pixels by a subcodec
abbrev pub coded : ℕ → ℕ → List ℕ → Result (List Rgb) Refusal
coded codec count bytes =
    if codec == RAW then raw_colours count bytes
    else (if codec == RLEX then covered count (rlex_of bytes) else Err SubcodecRefused)

-- the rectangle at the front of these bytes, in a picture of these sides
unfoldable pub area_at : ℕ → ℕ → List ℕ → Result Area Refusal
area_at width height bytes = do
  begun ← check ClearLengths (nat_le AREA (length bytes))
  whole ← check ClearLengths (nat_le (AREA + (area_of bytes).size) (length bytes))
  inside ← check RectOutside (is_inside width height (area_of bytes))
  Ok (area_of bytes)

-- pixels drawn in a rectangle
abbrev pub area_drawn : ℕ → Area → List Rgb → Drawing → Drawing
area_drawn across area pixels old = rows_drawn across area.width (area.y * across + area.x) area.height pixels old

-- one subcodec, and the bytes behind it
unfoldable pub subcodec : ℕ → ℕ → Drawing → List ℕ → Result (Drawing × List ℕ) Refusal
subcodec width height old bytes = do
  area ← area_at width height bytes
  pixels ← coded area.codec (area.width * area.height) (take area.size (drop AREA bytes))
  Ok (area_drawn width area pixels old, drop area.size (drop AREA bytes))

-- subcodecs to the end of the bytes; each takes a byte at least, so as many as there are bytes suffice
unfoldable pub subcodecs_within : ℕ → ℕ → ℕ → Drawing → List ℕ → Result Drawing Refusal
subcodecs_within most width height old [] = Ok old
subcodecs_within zero width height old (byte ∷ bytes) = Ok old
subcodecs_within (suc most) width height old (byte ∷ bytes) = do
  next ← subcodec width height old (byte ∷ bytes)
  subcodecs_within most width height next.0 next.1

-- what subcodecs draw
abbrev pub subcodecs : ℕ → ℕ → Drawing → List ℕ → Result Drawing Refusal
subcodecs width height old bytes = subcodecs_within (length bytes) width height old bytes
