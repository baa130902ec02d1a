-- The recording of fragments: each behind its length of two bytes, 1 to 1,600. This project's own rule.
use Rattle.std.specs.Prelude.{◌≡◌, ℕ, ◌<◌, ◌==◌, ◌||◌, nat_lt, nat_le, if◌then◌else◌, List, ◌++◌, length, take, drop, Option, Some, None}
use Rattle.std.specs.Int.{w16}
use Rattle.gfx_base.specs.Field.{field}
use Rattle.gfx_dvc.specs.declared.profile.TheConstants.{PREFIX, MOST_FRAGMENT}
use Rattle.gfx_dvc.specs.Cutting.{recorded_fragment, IsRecordable}

-- what bytes begin with: a whole fragment and the bytes behind it, too few bytes yet, or a length that no recorded
-- fragment has, which is ChannelLength
pub data Front : Type 0 where
  Whole : List ℕ → List ℕ → Front
  Short : Front
  Bad : Front

-- a length, once it is there, and the bytes behind it
unfoldable pub front_of : ℕ → Option ℕ → List ℕ → Front
front_of limit None bytes = Short
front_of limit (Some size) bytes =
    if size == 0 || nat_lt limit size then Bad
    else (if nat_le size (length bytes) then Whole (take size bytes) (drop size bytes) else Short)

-- the next fragment
unfoldable pub front : List ℕ → Front
front bytes = front_of MOST_FRAGMENT (field w16 bytes 0) (drop PREFIX bytes)

-- a recorded fragment is whole, whatever follows
abbrev pub RecordedIsWhole : Type 0
RecordedIsWhole = (fragment more : List ℕ) → IsRecordable fragment → front (recorded_fragment fragment ++ more) ≡ Whole fragment more

-- what is cut off inside is none yet
abbrev pub CutIsShort : Type 0
CutIsShort = (fragment start rest : List ℕ) → IsRecordable fragment → recorded_fragment fragment ≡ start ++ rest → 0 < length rest → front start ≡ Short
