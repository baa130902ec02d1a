-- How the index finds the places of given pixels: from the latest of a home to the earlier ones, each time to
-- one that was written before.
use Rattle.std.specs.Prelude.{◌≡◌, ℕ, ◌+◌, ◌<◌, ◌≤◌, nat_lt, List, slice_index_or, Option, Some, None, if◌then◌else◌}
use Rattle.std.specs.Option.{option_map}
use Rattle.gfx_clear_store.specs.Rings.{Slot}
use Rattle.gfx_clear_store.specs.Home.{home_of}

-- the order in which the places were written, in a ring that is written at the cursor next
abbrev pub rank : ℕ → ℕ → ℕ → ℕ
rank count cursor place = if nat_lt place cursor then place + count else place

-- the home of what stands at a place
abbrev pub home_at : ℕ → List Slot → ℕ → Option ℕ
home_at count slots place = option_map (home_of count) (slice_index_or slots place None)

-- a link leads to a place of this home, and from there this place can be reached
pub record Leads (order : ℕ → ℕ) (home_by : ℕ → Option ℕ) (home place link : ℕ) : Type 0 where
  pub after : order place ≤ order link
  pub same : home_by link ≡ Some home

-- each place is reached from its home, however many of that home were written later
pub record IsIndex (order : ℕ → ℕ) (home_by : ℕ → Option ℕ) (latest earlier : List ℕ) : Type 0 where
  pub first : (place home : ℕ) → home_by place ≡ Some home → Leads order home_by home place (slice_index_or latest home 0)
  pub next : (from place home : ℕ) → home_by from ≡ Some home → home_by place ≡ Some home → order place < order from
      → Leads order home_by home place (slice_index_or earlier from 0) × (order (slice_index_or earlier from 0) < order from)
