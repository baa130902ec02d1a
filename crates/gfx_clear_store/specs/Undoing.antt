-- How a ring goes back to its mark: what was overwritten first is put back last.
use Rattle.std.specs.Prelude.{⊤, ℕ, ◌<◌, Bool, ◌++◌, nat_eq, List, [], ◌∷◌, slice_set, if◌then◌else◌}
use Rattle.std.specs.List.{list_any}
use Rattle.gfx_clear_store.specs.Rings.{Slot}

-- a place, and what stood there before it was written
abbrev pub Overwritten : Type 0
Overwritten = ℕ × Slot

-- what was overwritten since the mark, in a ring of so many places
pub record Logged : Type 0 where
  pub room : ℕ
  pub entries : List Overwritten

abbrev pub logged : ℕ → List Overwritten → Logged
logged room entries = record { room = room; entries = entries }

-- a place was written since the mark
abbrev pub is_noted : ℕ → List Overwritten → Bool
is_noted place entries = list_any (λ entry. nat_eq place entry.0) entries

-- only what stood at the mark is kept
abbrev pub kept : ℕ → Slot → Logged → Logged
kept place slot log = if is_noted place log.entries then log else logged log.room (log.entries ++ (place, slot) ∷ [])

-- the slots as they were at the mark
abbrev pub undone : List Overwritten → List Slot → List Slot
undone [] slots = slots
undone (entry ∷ entries) slots = slice_set (undone entries slots) entry.0 entry.1

-- each place is below this number
abbrev pub AreWithin : ℕ → List Overwritten → Type 0
AreWithin count [] = ⊤
AreWithin count (entry ∷ entries) = (entry.0 < count) × AreWithin count entries
