-- Colours, which are pixels without alpha ([MS-RDPEGFX] RDPGFX_COLOR32), and lists of them. That a colour alone
-- is opaque is this project's own rule.
use Rattle.std.specs.Prelude.{ℕ, ◌+◌, ◌*◌, ◌%◌, ◌^◌, ◌==◌, Bool, ◌&&◌, nat_eq, List, [], ◌∷◌, ◌++◌, length, if◌then◌else◌}
use Rattle.std.specs.Cmp.Lexicographic.{pointwise}
use Rattle.std.specs.List.{fold, list_any}
use Rattle.gfx_base.specs.declared.pixel.Pixel.{Pixel}
use Rattle.gfx_base.specs.declared.pixel.Rgb.{Rgb}
use Rattle.gfx_base.specs.declared.colour.TheConstants.{SPREAD}

-- a pixel without its alpha
abbrev pub colour_of : Pixel → Rgb
colour_of pixel = record { b = pixel.b; g = pixel.g; r = pixel.r }

-- a colour that nothing shines through
abbrev pub opaque : Rgb → Pixel
opaque colour = record { b = colour.b; g = colour.g; r = colour.r; a = 255 }

-- nothing shines through a pixel
abbrev pub is_opaque : Pixel → Bool
is_opaque pixel = pixel.a == 255

abbrev pub same_colour : Rgb → Rgb → Bool
same_colour c d = nat_eq c.b d.b && (nat_eq c.g d.g && nat_eq c.r d.r)

abbrev pub same_pixels : List Rgb → List Rgb → Bool
same_pixels = pointwise same_colour

abbrev pub has_colour : List Rgb → Rgb → Bool
has_colour palette colour = list_any (same_colour colour) palette

-- a palette with a colour that it may have already
unfoldable pub with_colour : List Rgb → Rgb → List Rgb
with_colour palette colour = if has_colour palette colour then palette else palette ++ colour ∷ []

-- a palette with the colours of pixels, by first appearance
unfoldable pub with_colours : List Rgb → List Rgb → List Rgb
with_colours palette [] = palette
with_colours palette (pixel ∷ pixels) = with_colours (with_colour palette pixel) pixels

-- the colours of pixels, by first appearance
abbrev pub colours_of : List Rgb → List Rgb
colours_of pixels = with_colours [] pixels

-- a hash with one more pixel: this project's own rule, on which no answer depends
unfoldable pub mixed : ℕ → Rgb → ℕ
mixed hash pixel = (hash + (pixel.b + 256 * pixel.g + 65536 * pixel.r)) % 2 ^ 64 * SPREAD % 2 ^ 64

-- a number that is another where pixels mostly are
abbrev pub hash_of : List Rgb → ℕ
hash_of pixels = fold mixed (length pixels) pixels
