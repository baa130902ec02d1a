-- How a channel message is cut into fragments, and how fragments are recorded: this project's own rule, within
-- [MS-RDPEDYC] 2.2.3.
use Rattle.std.specs.Prelude.{ℕ, zero, suc, ◌≤◌, ◌<◌, nat_le, if◌then◌else◌, List, [], ◌∷◌, ◌++◌, length, take, drop, map}
use Rattle.std.specs.Int.{w16, w32, to_le_bytes, div_ceil}
use Rattle.std.specs.List.{flat_map, AllByRecursion}
use Rattle.gfx_dvc.specs.declared.profile.TheConstants.{CHANNEL, DATA_BYTE, NARROW_BYTE, WIDE_BYTE, MOST_FRAGMENT, MOST_LONE, MOST_NARROW, MOST_DATA, MOST_NARROW_DATA, MOST_WIDE_DATA}
use Rattle.gfx_dvc.specs.Joining.{Joiner, idle}
use Rattle.gfx_dvc.specs.Joined.{IsMessage}
use Rattle.gfx_dvc.specs.Laws.{IsIdle, Leads}

-- a DATA of channel 1 with a piece
unfoldable pub data_fragment : List ℕ → List ℕ
data_fragment piece = DATA_BYTE ∷ CHANNEL ∷ piece

-- a DATA_FIRST of channel 1 with a total of two or four bytes, and a piece
unfoldable pub narrow_fragment : ℕ → List ℕ → List ℕ
narrow_fragment total piece = NARROW_BYTE ∷ CHANNEL ∷ (to_le_bytes w16 total ++ piece)

unfoldable pub wide_fragment : ℕ → List ℕ → List ℕ
wide_fragment total piece = WIDE_BYTE ∷ CHANNEL ∷ (to_le_bytes w32 total ++ piece)

-- so many pieces of so many bytes each, the last with what is left
unfoldable pub pieces : ℕ → ℕ → List ℕ → List (List ℕ)
pieces most zero bytes = []
pieces most (suc count) bytes = take most bytes ∷ pieces most count (drop most bytes)

-- DATA as full as can be, and the last with what is left
unfoldable pub data_fragments : ℕ → List ℕ → List (List ℕ)
data_fragments most bytes = map data_fragment (pieces most (div_ceil (length bytes) most) bytes)

-- a message that a DATA_FIRST begins, as full as can be
unfoldable pub several : (List ℕ → List ℕ) → ℕ → List ℕ → List (List ℕ)
several first room message = first (take room message) ∷ data_fragments MOST_DATA (drop room message)

-- the fragments of a message: one DATA where it is short, else a DATA_FIRST and DATA
unfoldable pub fragments_of : List ℕ → List (List ℕ)
fragments_of message =
    if nat_le (length message) MOST_LONE then data_fragment message ∷ []
    else (if nat_le (length message) MOST_NARROW then several (narrow_fragment (length message)) MOST_NARROW_DATA message
    else several (wide_fragment (length message)) MOST_WIDE_DATA message)

-- a fragment behind its length, and all of a message so
unfoldable pub recorded_fragment : List ℕ → List ℕ
recorded_fragment fragment = to_le_bytes w16 (length fragment) ++ fragment

unfoldable pub recorded : List ℕ → List ℕ
recorded message = flat_map recorded_fragment (fragments_of message)

-- a fragment that may be recorded
abbrev pub IsRecordable : List ℕ → Type 0
IsRecordable fragment = (0 < length fragment) × (length fragment ≤ MOST_FRAGMENT)

-- what is written of a message is this message whole, in fragments that may be recorded; it is given again, whatever
-- fragments are behind it
pub record IsCut (message : List ℕ) : Type 0 where
  pub whole : IsMessage CHANNEL (fragments_of message) message
  pub fit : AllByRecursion IsRecordable (fragments_of message)
  pub joins :
      (joiner : Joiner) (behind : List (List ℕ)) → IsIdle CHANNEL joiner
      → Leads joiner (fragments_of message ++ behind) (message ∷ []) (idle CHANNEL) behind
