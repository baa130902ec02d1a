-- What a surface shows: its sides, its format and its pixels ([MS-RDPEGFX], RDPGFX_CREATE_SURFACE_PDU,
-- RDPGFX_SOLIDFILL_PDU, RDPGFX_SURFACE_TO_SURFACE_PDU and RDPGFX_WIRE_TO_SURFACE_PDU_1). The colour of
-- a new surface and the rules on alpha are this project's own.
use Rattle.std.specs.Prelude.{◌≡◌, ℕ, ◌+◌, ◌-◌, ◌*◌, ◌/◌, ◌%◌, ◌<◌, ◌≤◌, List, [], ◌∷◌, All, map, length, take, drop, replicate, if◌then◌else◌}
use Rattle.std.specs.List.{range_with_len, slice_index_or}
use Rattle.gfx_base.specs.declared.format.Format.{Format}
use Rattle.gfx_base.specs.declared.format.Format.TheVariants.{Xrgb, Argb}
use Rattle.gfx_base.specs.declared.geometry.Point.{Point}
use Rattle.gfx_base.specs.declared.geometry.Rect.{Rect}
use Rattle.gfx_base.specs.declared.pixel.Pixel.{Pixel}
use Rattle.gfx_base.specs.Geometry.{holds, width_of, height_of, moved}
use Rattle.gfx_surface.specs.declared.TheConstants.{MOST_SIDE}

-- the pixels stand row by row from the top
pub record Picture : Type 0 where
  pub width : ℕ
  pub height : ℕ
  pub format : Format
  pub pixels : List Pixel

-- what a new surface holds
abbrev pub zero_colour : Format → Pixel
zero_colour Xrgb = record { b = 0; g = 0; r = 0; a = 255 }
zero_colour Argb = record { b = 0; g = 0; r = 0; a = 0 }

-- a colour as the format keeps it
abbrev pub shade : Format → Pixel → Pixel
shade Xrgb colour = record colour { a = 255 }
shade Argb colour = colour

-- the sides are within their range, and there is a pixel for each place, as the format keeps it
pub record IsPicture (picture : Picture) : Type 0 where
  pub width_from : 1 ≤ picture.width
  pub width_most : picture.width ≤ MOST_SIDE
  pub height_from : 1 ≤ picture.height
  pub height_most : picture.height ≤ MOST_SIDE
  pub full : length picture.pixels ≡ picture.width * picture.height
  pub shaded : All (λ pixel. shade picture.format pixel ≡ pixel) picture.pixels

-- a new surface
abbrev pub blank : ℕ → ℕ → Format → Picture
blank width height format =
    record { width = width; height = height; format = format; pixels = replicate (width * height) (zero_colour format) }

-- what stands outside a picture
abbrev pub no_pixel : Pixel
no_pixel = zero_colour Argb

-- nothing shines through these pixels
abbrev pub AreOpaque : List Pixel → Type 0
AreOpaque pixels = (k : ℕ) → k < length pixels → (slice_index_or pixels k no_pixel).a ≡ 255

-- the pixel at column x of row y
abbrev pub pixel_at : Picture → ℕ → ℕ → Pixel
pixel_at picture x y = slice_index_or picture.pixels (y * picture.width + x) no_pixel

-- the pixels of row y
abbrev pub row_of : Picture → ℕ → List Pixel
row_of picture y = take picture.width (drop (y * picture.width) picture.pixels)

-- so many pixels of row y, from column x on
abbrev pub run_of : Picture → ℕ → ℕ → ℕ → List Pixel
run_of picture x y count = take count (drop x (row_of picture y))

-- the list of a function of column and row, row by row
abbrev pub drawn : ℕ → ℕ → (ℕ → ℕ → Pixel) → List Pixel
drawn width height f = map (λ k. f (k % width) (k / width)) (range_with_len 0 (width * height))

-- a picture whose pixels are this function of the column and the row
abbrev pub redrawn : Picture → (ℕ → ℕ → Pixel) → Picture
redrawn picture f = record picture { pixels = drawn picture.width picture.height f }

-- a picture with the rectangle in this colour
unfoldable pub filled : Picture → Rect → Pixel → Picture
filled picture rect colour =
    redrawn picture (λ x y. if holds rect x y then shade picture.format colour else pixel_at picture x y)

-- a picture with a rectangle of a source at a point
unfoldable pub copied : Picture → Rect → Point → Picture → Picture
copied source rect to picture =
    redrawn picture (λ x y. if holds (moved rect to) x y
    then shade picture.format (pixel_at source (x - to.x + rect.left) (y - to.y + rect.top)) else pixel_at picture x y)

-- the pixels of a rectangle, row by row from the top
abbrev pub rect_of : Picture → Rect → List Pixel
rect_of picture rect =
    drawn (width_of rect) (height_of rect) (λ x y. pixel_at picture (x + rect.left) (y + rect.top))

-- the pixel for a place, of pixels that stand in a rectangle row by row from its top
abbrev pub in_rect : Rect → List Pixel → ℕ → ℕ → Pixel
in_rect rect pixels x y = slice_index_or pixels ((y - rect.top) * width_of rect + (x - rect.left)) no_pixel

-- a picture with these pixels in a rectangle
unfoldable pub overlaid : Picture → Rect → List Pixel → Picture
overlaid picture rect pixels =
    redrawn picture (λ x y. if holds rect x y then shade picture.format (in_rect rect pixels x y) else pixel_at picture x y)

-- the pixels of uncompressed data: blue, green, red and alpha each, where the format keeps it
unfoldable pub raw_pixels : Format → List ℕ → List Pixel
raw_pixels format (b ∷ g ∷ r ∷ a ∷ rest) = shade format (record { b = b; g = g; r = r; a = a }) ∷ raw_pixels format rest
raw_pixels format rest = []
