-- One entry against what is left of a cache.
use Rattle.std.specs.Prelude.{ℕ, Bool, ◌&&◌, nat_lt, nat_le, Option, Some, None, if◌then◌else◌}
use Rattle.gfx_bitmap_cache.specs.Slots.{Image, bytes_for}

-- there is a slot, and room for the image
abbrev pub fits : ℕ → ℕ → Image → Bool
fits slots room image = nat_lt 0 slots && nat_le (bytes_for image.width image.height) room

-- the image that is there, where it fits
abbrev pub found_in : ℕ → ℕ → Option Image → Option Image
found_in slots room None = None
found_in slots room (Some image) = if fits slots room image then Some image else None
