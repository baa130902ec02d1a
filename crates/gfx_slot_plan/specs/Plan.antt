-- Which slots the server's keys take, and which keys go for them: this project's own rule, as
-- [MS-RDPEGFX] leaves the choice to the server (RDPGFX_SURFACE_TO_CACHE_PDU and
-- RDPGFX_EVICT_CACHE_ENTRY_PDU carry it out). The limits are those of the cache of bitmaps.
use Rattle.std.specs.Prelude.{◌≡◌, ℕ, zero, suc, ◌+◌, ◌≤◌, Bool, false, ◌&&◌, not, nat_eq, nat_le, List, [], ◌∷◌, ◌++◌, map, filter, length, take, drop, reverse, slice_index, Option, None, ⊤, Result, Ok, Err, if◌then◌else◌}
use Rattle.std.specs.List.{list_any, sum_by, range_with_len}
use Rattle.std.specs.Map.{lookup, lookup_entry, remove_entry}
use Rattle.std.specs.Option.{option_map, option_map_or, option_to_list}
use Rattle.gfx_base.specs.declared.answer.Cause.{Cause}
use Rattle.gfx_base.specs.declared.answer.Cause.TheVariants.{Refused, Memory}
use Rattle.gfx_base.specs.declared.refusal.Refusal.{Refusal}
use Rattle.gfx_base.specs.declared.refusal.Refusal.TheVariants.{CacheBudget}
use Rattle.gfx_base.specs.Results.{◌>>=◌, check}
use Rattle.gfx_bitmap_cache.specs.Slots.{last_slot, budget, bytes_for}
use Rattle.gfx_slot_plan.specs.declared.kept.Kept.{Kept}
use Rattle.gfx_slot_plan.specs.declared.allocation.Allocation.{Allocation}
use Rattle.gfx_slot_plan.specs.Pool.{is_none}

-- keys with their places, the most recently used first
abbrev pub Allocations : Type 0
Allocations = List (ℕ × Allocation)

pub record Plan : Type 0 where
  pub places : Allocations
  pub small : Bool

abbrev pub plan : Allocations → Bool → Plan
plan places small = record { places = places; small = small }

abbrev pub place : ℕ → ℕ → Allocation
place slot bytes = record { slot = slot; bytes = bytes }

-- how many bytes all bitmaps take together
abbrev pub total : Allocations → ℕ
total places = sum_by (λ held. held.1.bytes) places

-- a key has this slot
abbrev pub is_used : Allocations → ℕ → Bool
is_used places slot = list_any (λ held. nat_eq slot held.1.slot) places

-- the slots up to the last that no key has, ascending
abbrev pub free_slots : ℕ → Allocations → List ℕ
free_slots last places = filter (λ slot. not (is_used places slot)) (range_with_len 1 last)

-- a bitmap of so many bytes can be kept beside these: a slot is free, and the bytes are within the limit
abbrev pub takes_more : ℕ → ℕ → ℕ → Allocations → Bool
takes_more last most bytes places = not (is_none (free_slots last places)) && nat_le (total places + bytes) most

-- how many of the first n stay: the last of them, which is the least recently used, goes while there is no room
abbrev pub staying : ℕ → ℕ → ℕ → Allocations → ℕ → ℕ
staying last most bytes places zero = zero
staying last most bytes places (suc n) =
    if takes_more last most bytes (take (suc n) places) then suc n else staying last most bytes places n

-- which of them stay for so many bytes more
abbrev pub left_for : ℕ → ℕ → ℕ → Allocations → Allocations
left_for last most bytes places = take (staying last most bytes places (length places)) places

-- and which go
abbrev pub gone_for : ℕ → ℕ → ℕ → Allocations → Allocations
gone_for last most bytes places = drop (staying last most bytes places (length places)) places

-- all but this key
abbrev pub without : ℕ → Allocations → Allocations
without key places = remove_entry (nat_eq key) places

-- the key's slot, if it is held
abbrev pub slot_of : ℕ → Allocations → Option ℕ
slot_of key places = option_map (λ held. held.slot) (lookup (nat_eq key) places)

-- the slots of these, the last first
abbrev pub slots_back : Allocations → List ℕ
slots_back places = reverse (map (λ held. held.1.slot) places)

-- the least slot that no key has
abbrev pub least_free : ℕ → Allocations → ℕ
least_free last places = slice_index (free_slots last places) 0

-- what goes where a key is kept: its own slot first, then those of the least recently used keys
abbrev pub dropped_for : ℕ → ℕ → ℕ → ℕ → Allocations → List ℕ
dropped_for last most key bytes places = option_to_list (slot_of key places) ++ slots_back (gone_for last most bytes (without key places))

-- the plan after a key is kept, in the least free slot and the most recently used, and what goes for it
abbrev pub chosen : Plan → ℕ → ℕ → Plan × Kept
chosen old key bytes =
    let last = last_slot old.small in
    let most = budget old.small in
    let left = left_for last most bytes (without key old.places) in
    let slot = least_free last left in
    (plan ((key, place slot bytes) ∷ left) old.small, record { dropped = dropped_for last most key bytes old.places; slot = slot })

-- the same, or the reason against it: the bitmap alone is over the budget
unfoldable pub keeps : Plan → ℕ → ℕ → ℕ → Result (Plan × Kept) Refusal
keeps old key width height = do
  alone ← check CacheBudget (nat_le (bytes_for width height) (budget old.small))
  Ok (chosen old key (bytes_for width height))

-- a held key is the most recently used
abbrev pub touched : Plan → ℕ → Plan
touched old key = plan (option_map_or (λ held. held ∷ without key old.places) (lookup_entry (nat_eq key) old.places) old.places) old.small

-- a key is held no more
abbrev pub forgotten : Plan → ℕ → Plan
forgotten old key = plan (without key old.places) old.small

-- no key is held twice
abbrev pub AreKeys : Allocations → Type 0
AreKeys [] = ⊤
AreKeys (held ∷ places) = (lookup (nat_eq held.0) places ≡ None) × AreKeys places

-- each slot is one, and no two keys have the same
abbrev pub AreSlots : ℕ → Allocations → Type 0
AreSlots last [] = ⊤
AreSlots last (held ∷ places) = (1 ≤ held.1.slot) × (held.1.slot ≤ last) × (is_used places held.1.slot ≡ false) × AreSlots last places

-- what holds of every plan
pub record IsPlan (p : Plan) : Type 0 where
  pub keys : AreKeys p.places
  pub slots : AreSlots (last_slot p.small) p.places
  pub within : total p.places ≤ budget p.small

-- what a call that keeps a key answered, against what is due
abbrev pub Chooses : Result Kept (Cause Refusal) → Plan → Plan → Result (Plan × Kept) Refusal → Type 0
Chooses (Ok kept) old new due = due ≡ Ok (new, kept)
Chooses (Err Memory) old new due = new ≡ old
Chooses (Err (Refused r)) old new due = (due ≡ Err r) × (new ≡ old)
