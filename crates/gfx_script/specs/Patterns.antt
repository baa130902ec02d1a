-- What pictures show, pixel by pixel: this project's own patterns.
use Rattle.std.specs.Prelude.{ℕ, ◌+◌, ◌*◌, ◌/◌, ◌%◌, ◌^◌, Bool, ◌==◌, ◌&&◌, nat_le, nat_lt, if◌then◌else◌}
use Rattle.std.specs.List.{slice_index_or}
use Rattle.gfx_base.specs.declared.pixel.Pixel.{Pixel}
use Rattle.gfx_surface.specs.Picture.{no_pixel}
use Rattle.gfx_script.specs.declared.picture.Pattern.{Pattern}
use Rattle.gfx_script.specs.declared.picture.Pattern.TheVariants.{Solid, Ramp, Noise, Text, Desktop, Hex}
use Rattle.gfx_script.specs.declared.picture.Picture.{Picture}

-- a colour with full alpha
abbrev pub opaque : ℕ → ℕ → ℕ → Pixel
opaque b g r = record { b = b; g = g; r = r; a = 255 }

-- a number of 32 bits from a place and a seed
abbrev pub hash_at : ℕ → ℕ → ℕ → ℕ
hash_at seed x y = (2654435761 * x + 2246822519 * y + 3266489917 * seed) % 2 ^ 32

-- its three upper bytes
abbrev pub noise_pixel : ℕ → Pixel
noise_pixel hash = opaque (hash / 2 ^ 24) (hash / 2 ^ 16 % 256) (hash / 2 ^ 8 % 256)

-- ink of letters, in fields of 8 by 16 pixels with a margin right and below
abbrev pub is_ink : ℕ → ℕ → Bool
is_ink x y = nat_lt (x % 8) 6 && nat_lt (y % 16) 11 && (x % 8 * (y % 16) + 3 * (x / 8) + y / 16) % 3 == 0

-- the half of a side in its middle
abbrev pub is_in_middle : ℕ → ℕ → Bool
is_in_middle side at = nat_le side (4 * at) && nat_lt (4 * at) (3 * side)

-- the pixel of a pattern of these sides at column x of row y
unfoldable pub pattern_pixel : ℕ → ℕ → Pattern → ℕ → ℕ → Pixel
pattern_pixel width height (Solid colour) x y = colour
pattern_pixel width height Ramp x y = opaque (x % 256) (y % 256) ((x + y) % 256)
pattern_pixel width height (Noise seed) x y = noise_pixel (hash_at seed x y)
pattern_pixel width height Text x y = if is_ink x y then opaque 0 0 0 else opaque 255 255 255
pattern_pixel width height Desktop x y =
    if is_in_middle width x && is_in_middle height y then opaque 240 240 240 else opaque 160 96 32
pattern_pixel width height (Hex pixels) x y = slice_index_or pixels (y * width + x) no_pixel

-- the pixel of a picture at column x of row y
abbrev pub pixel_of : Picture → ℕ → ℕ → Pixel
pixel_of picture x y = pattern_pixel picture.width picture.height picture.pattern x y
