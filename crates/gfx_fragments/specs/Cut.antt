-- How an input is cut into items, each behind its length: a stream into channel messages, a recording of fragments
-- into fragments. This project's own rule.
use Rattle.std.specs.Prelude.{◌≡◌, ℕ, zero, suc, Bool, true, false, List, [], ◌∷◌, length}
use Rattle.gfx_dvc.specs.Recording as recording
use Rattle.gfx_segment.specs.Framing as framing

-- what bytes begin with: an item whole and the bytes behind it, too few bytes yet, or a length that no item has
pub data Next : Type 0 where
  One : List ℕ → List ℕ → Next
  Few : Next
  Wrong : Next

abbrev pub of_framing : framing.Front → Next
of_framing (framing.Whole message after) = One message after
of_framing framing.Short = Few
of_framing framing.Bad = Wrong

abbrev pub of_recording : recording.Front → Next
of_recording (recording.Whole fragment after) = One fragment after
of_recording recording.Short = Few
of_recording recording.Bad = Wrong

-- what the bytes of a stream begin with, and those of a recording of fragments
unfoldable pub next_message : List ℕ → Next
next_message bytes = of_framing (framing.front bytes)

unfoldable pub next_fragment : List ℕ → Next
next_fragment bytes = of_recording (recording.front bytes)

abbrev pub is_one : Next → Bool
is_one (One item after) = true
is_one Few = false
is_one Wrong = false

-- the whole items at the front of bytes, and the bytes behind them
pub record Cut : Type 0 where
  pub items : List (List ℕ)
  pub rest : List ℕ

abbrev pub cut_of : List (List ℕ) → List ℕ → Cut
cut_of items rest = record { items = items; rest = rest }

-- bytes that begin so: their item is in front of those behind it
abbrev pub with_first : Next → List ℕ → (List ℕ → Cut) → Cut
with_first (One item after) bytes others = record { items = item ∷ (others after).items; rest = (others after).rest }
with_first Few bytes others = cut_of [] bytes
with_first Wrong bytes others = cut_of [] bytes

-- at most so many items
unfoldable pub cut_within : ℕ → (List ℕ → Next) → List ℕ → Cut
cut_within zero next bytes = cut_of [] bytes
cut_within (suc most) next bytes = with_first (next bytes) bytes (λ after. cut_within most next after)

-- all items; each has bytes
unfoldable pub cut : (List ℕ → Next) → List ℕ → Cut
cut next bytes = cut_within (length bytes) next bytes

-- bytes begin with these items, and go on with the rest
abbrev pub Cuts : (List ℕ → Next) → List ℕ → List (List ℕ) → List ℕ → Type 0
Cuts next bytes [] rest = bytes ≡ rest
Cuts next bytes (item ∷ items) rest = (after : List ℕ) × (next bytes ≡ One item after) × Cuts next after items rest
