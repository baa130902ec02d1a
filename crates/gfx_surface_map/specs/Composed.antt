-- The output as it is put together: black, and over it the mapped surfaces in order of first mapping, each
-- cut off at the output's sides, all opaque. This is this project's own rule.
use Rattle.std.specs.Prelude.{◌≡◌, ◌<◌, length, ℕ, ◌+◌, ◌-◌, Bool, ◌&&◌, nat_le, nat_lt, if◌then◌else◌, List, [], ◌∷◌, ◌++◌, map, fold, take, Option, Some, None, Result, Ok}
use Rattle.std.specs.List.{flat_map, range_with_len, slice_index_or}
use Rattle.std.specs.FinMap.{get}
use Rattle.gfx_base.specs.declared.format.Format.TheVariants.{Xrgb}
use Rattle.gfx_base.specs.declared.geometry.Rect.{Rect}
use Rattle.gfx_base.specs.declared.pixel.Pixel.{Pixel}
use Rattle.gfx_base.specs.declared.refusal.Refusal.{Refusal}
use Rattle.gfx_base.specs.declared.refusal.Refusal.TheVariants.{RectOutside}
use Rattle.gfx_base.specs.Geometry.{lies_in, width_of, height_of}
use Rattle.gfx_base.specs.Results.{◌>>=◌, check}
use Rattle.gfx_surface.specs.Picture.{Picture, no_pixel, pixel_at, shade, zero_colour}
use Rattle.gfx_surface_map.specs.declared.place.Place.{Place}
use Rattle.gfx_surface_map.specs.Surfaces.{Surfaces}
use Rattle.gfx_surface_map.specs.Shown.{Shown}

-- a picture at this place reaches column x of row y of the output
abbrev pub reaches : Picture → Place → ℕ → ℕ → Bool
reaches picture place x y =
    nat_le place.x x && nat_lt x (place.x + picture.width) && nat_le place.y y && nat_lt y (place.y + picture.height)

-- what a picture at this place makes of the pixel under it
abbrev pub over : Option Picture → Place → ℕ → ℕ → Pixel → Pixel
over None place x y under = under
over (Some picture) place x y under =
    if reaches picture place x y then shade Xrgb (pixel_at picture (x - place.x) (y - place.y)) else under

-- the output's pixel at column x of row y, with these surfaces mapped
abbrev pub composed : Surfaces → List (ℕ × Place) → ℕ → ℕ → Pixel
composed surfaces maps x y =
    fold (λ under entry. over (get surfaces entry.0) entry.1 x y under) (zero_colour Xrgb) maps

-- so many pixels of row y of the output, from this column on
abbrev pub output_part : Shown → ℕ → ℕ → ℕ → List Pixel
output_part shown left y count = map (λ x. composed shown.surfaces shown.maps x y) (range_with_len left count)

-- the pixels of row y of the output
abbrev pub output_row : Shown → ℕ → List Pixel
output_row shown y = map (λ x. composed shown.surfaces shown.maps x y) (range_with_len 0 shown.output.width)

-- a pixel as bytes: blue, green, red, and alpha, which is 255 in the output
abbrev pub pixel_bytes : Pixel → List ℕ
pixel_bytes pixel = pixel.b ∷ pixel.g ∷ pixel.r ∷ pixel.a ∷ []

-- so many rows of a part of the output as bytes, from row y on
abbrev pub rows_bytes : Shown → ℕ → ℕ → ℕ → ℕ → List ℕ
rows_bytes shown left count y rows = flat_map (λ row. flat_map pixel_bytes (output_part shown left row count)) (range_with_len y rows)

-- a rectangle of the output as bytes, row by row from its top
abbrev pub rect_bytes : Shown → Rect → List ℕ
rect_bytes shown rect = rows_bytes shown rect.left (width_of rect) rect.top (height_of rect)

-- bytes with those of a rectangle of the output behind them, which has to lie in it
unfoldable pub with_rect_bytes : Shown → Rect → List ℕ → Result (List ℕ) Refusal
with_rect_bytes shown rect bytes = do
  inside ← check RectOutside (lies_in shown.output.width shown.output.height rect)
  Ok (bytes ++ rect_bytes shown rect)

-- the old bytes still stand at the front
abbrev pub Keeps : List ℕ → List ℕ → Type 0
Keeps old new = take (length old) new ≡ old

-- each pixel of row y, which begins with this column, is what a picture at this place makes of it
abbrev pub PaintsPart : Option Picture → Place → ℕ → ℕ → List Pixel → List Pixel → Type 0
PaintsPart picture place left y old new =
    (x : ℕ) (d : Pixel) → x < length old → slice_index_or new x d ≡ over picture place (left + x) y (slice_index_or old x d)

-- each pixel from this column on is one of these, opaque, as far as they go, and each other is as it was
abbrev pub PaintsRun : List Pixel → ℕ → List Pixel → List Pixel → Type 0
PaintsRun pixels start old new =
    (x : ℕ) (d : Pixel) → x < length old
    → slice_index_or new x d
    ≡ (if nat_le start x && nat_lt x (start + length pixels) then shade Xrgb (slice_index_or pixels (x - start) no_pixel) else slice_index_or old x d)

-- each pixel of row y, which begins with this column, is what a mapped surface makes of it
abbrev pub PaintsMap : Surfaces → ℕ × Place → ℕ → ℕ → List Pixel → List Pixel → Type 0
PaintsMap surfaces entry left y old new = PaintsPart (get surfaces entry.0) entry.1 left y old new
