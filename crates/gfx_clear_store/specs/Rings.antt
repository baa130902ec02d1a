-- The two rings of columns that a ClearCodec decoder keeps ([MS-RDPEGFX] 2.2.4.1.1.2, the V-bar and the
-- short V-bar storage). That a refused message leaves them as they were is this project's own rule.
use Rattle.std.specs.Prelude.{◌≡◌, ◌≢◌, ℕ, ◌+◌, ◌<◌, ◌==◌, Bool, false, List, length, replicate, slice_set, slice_index_or, position, Option, Some, None, if◌then◌else◌}
use Rattle.gfx_base.specs.Colour.{same_pixels}
use Rattle.gfx_base.specs.declared.pixel.Rgb.{Rgb}
use Rattle.gfx_clear_store.specs.declared.store.TheConstants.{BARS, SHORTS}

-- what stands at a place: pixels from the top, or nothing where it was never written
abbrev pub Slot : Type 0
Slot = Option (List Rgb)

-- the places of a ring, and the one that is written next
pub record Places : Type 0 where
  pub slots : List Slot
  pub cursor : ℕ

abbrev pub places : List Slot → ℕ → Places
places slots cursor = record { slots = slots; cursor = cursor }

-- a ring of so many places to which nothing was ever written
unfoldable pub unwritten : ℕ → Places
unwritten count = places (replicate count None) 0

-- the place after this one; the first stands behind the last
abbrev pub next_place : ℕ → ℕ → ℕ
next_place count place = if place + 1 == count then 0 else place + 1

-- the ring of so many places once these pixels are written
abbrev pub added : ℕ → List Rgb → Places → Places
added count pixels old = places (slice_set old.slots old.cursor (Some pixels)) (next_place count old.cursor)

abbrev pub slot_at : Places → ℕ → Slot
slot_at ring place = slice_index_or ring.slots place None

-- these pixels stand there
abbrev pub stands : List Rgb → Slot → Bool
stands pixels None = false
stands pixels (Some held) = same_pixels held pixels

-- the first place with these pixels, if there is one
abbrev pub least_place : List Rgb → Places → Option ℕ
least_place pixels ring = position (stands pixels) ring.slots

-- these pixels stand at this place and at no lesser one, or at none
abbrev pub IsLeast : List Rgb → Places → Option ℕ → Type 0
IsLeast pixels ring None = (place : ℕ) → slot_at ring place ≢ Some pixels
IsLeast pixels ring (Some least) = (slot_at ring least ≡ Some pixels) × ((place : ℕ) → place < least → slot_at ring place ≢ Some pixels)

-- both rings
pub record Rings : Type 0 where
  pub bars : Places
  pub shorts : Places

abbrev pub rings : Places → Places → Rings
rings bars shorts = record { bars = bars; shorts = shorts }

-- rings to which nothing was ever written
abbrev pub no_rings : Rings
no_rings = rings (unwritten BARS) (unwritten SHORTS)

abbrev pub with_bar : List Rgb → Rings → Rings
with_bar pixels old = rings (added BARS pixels old.bars) old.shorts

abbrev pub with_short : List Rgb → Rings → Rings
with_short pixels old = rings old.bars (added SHORTS pixels old.shorts)

-- both rings are written from their first place on
abbrev pub from_start : Rings → Rings
from_start old = rings (places old.bars.slots 0) (places old.shorts.slots 0)

-- something as it is, and as it was when it was marked
pub record Marked (A : Type 0) : Type 0 where
  pub held : A
  pub marked : A

abbrev pub with_mark : {A : Type 0} → A → A → Marked A
with_mark held marked = record { held = held; marked = marked }

-- what holds of every ring of so many places
pub record IsRing (count : ℕ) (ring : Places) : Type 0 where
  pub whole : length ring.slots ≡ count
  pub within : ring.cursor < count

-- and of both
pub record AreRings (both : Rings) : Type 0 where
  pub bars : IsRing BARS both.bars
  pub shorts : IsRing SHORTS both.shorts
