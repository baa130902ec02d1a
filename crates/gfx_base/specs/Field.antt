-- Numbers in a list of bytes: little-endian, as in all of [MS-RDPEGFX] (section 2.2).
use Rattle.std.specs.Prelude.{ℕ, ◌+◌, ◌<◌, slice_index, List, length, take, drop, nat_le, if◌then◌else◌, Option, Some, None}
use Rattle.std.specs.Int.{Width, byte_len, from_le_bytes}

-- the number of the bytes at a place; past the end they count as zero
abbrev pub number_at : Width → List ℕ → ℕ → ℕ
number_at width bytes at = from_le_bytes width (take (byte_len width) (drop at bytes))

-- the number at a place, where the bytes go on to its end
unfoldable pub field : Width → List ℕ → ℕ → Option ℕ
field width bytes at =
    if nat_le (at + byte_len width) (length bytes) then Some (number_at width bytes at) else None

-- each is the value of a byte
abbrev pub IsBytes : List ℕ → Type 0
IsBytes bytes = (i : ℕ) → slice_index bytes i < 256
