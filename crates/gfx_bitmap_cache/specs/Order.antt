-- The filled slots in ascending order: this project's own rule on the order of a report.
use Rattle.std.specs.Prelude.{ℕ, List, filter, nat_le, Option, slice_get}
use Rattle.std.specs.Option.{option_map}
use Rattle.gfx_bitmap_cache.specs.Slots.{Entry}

-- the entries whose slots are not below this number, in their order
abbrev pub from_slot : ℕ → List (ℕ × Entry) → List (ℕ × Entry)
from_slot from entries = filter (λ held. nat_le from held.0) entries

-- the slot of the first entry
abbrev pub first_slot : List (ℕ × Entry) → Option ℕ
first_slot entries = option_map (λ held. held.0) (slice_get entries 0)
