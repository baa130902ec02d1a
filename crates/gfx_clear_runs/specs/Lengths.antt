-- Run lengths ([MS-RDPEGFX] 2.2.4.1.1.1.1, runLengthFactor1 to runLengthFactor3): a byte; 0xFF means that two
-- bytes follow, and 0xFFFF in them that four follow.
use Rattle.std.specs.Prelude.{ℕ, ◌==◌, nat_lt, List, [], ◌∷◌, Option, Some, None, if◌then◌else◌}
use Rattle.std.specs.Int.{w16, w32, to_le_bytes}
use Rattle.gfx_base.specs.Field.{field}
use Rattle.gfx_clear_runs.specs.declared.length.Length.{Length}

-- a run length that has so many bytes
abbrev pub lasts : ℕ → ℕ → Length
lasts count size = record { count = count; size = size }

-- the long form, behind its two marks
unfoldable pub long_length : Option ℕ → Option Length
long_length None = None
long_length (Some count) = Some (lasts count 7)

-- the middle form, behind its mark, before the four bytes that may follow
unfoldable pub middle_length : Option ℕ → Option ℕ → Option Length
middle_length None long = None
middle_length (Some count) long = if count == 65535 then long_length long else Some (lasts count 3)

-- the run length at the front of bytes
unfoldable pub length_at : List ℕ → Option Length
length_at [] = None
length_at (short ∷ rest) =
    if short == 255 then middle_length (field w16 (short ∷ rest) 1) (field w32 (short ∷ rest) 3)
    else Some (lasts short 1)

-- the shortest spelling of a run length
unfoldable pub length_spelled : ℕ → List ℕ
length_spelled count =
    if nat_lt count 255 then count ∷ []
    else if nat_lt count 65535 then 255 ∷ to_le_bytes w16 count
    else 255 ∷ 255 ∷ 255 ∷ to_le_bytes w32 count
