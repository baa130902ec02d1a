-- The cache of bitmaps ([MS-RDPEGFX], RDPGFX_SURFACE_TO_CACHE_PDU, RDPGFX_CACHE_TO_SURFACE_PDU and
-- RDPGFX_EVICT_CACHE_ENTRY_PDU; the limits as for RDPGFX_CAPS_FLAG_SMALL_CACHE and without it). The
-- order of the checks is this project's own rule.
use Rattle.std.specs.Prelude.{ℕ, ◌+◌, ◌*◌, ◌≤◌, Bool, IsTrue, IsSome, ◌&&◌, nat_le, List, Option, Result, Ok, if◌then◌else◌}
use Rattle.std.specs.List.{sum_by}
use Rattle.std.specs.Option.{option_map_or, ok_or}
use Rattle.std.specs.Ordering.{nat_cmp}
use Rattle.std.specs.FinMap as finmap
use Rattle.std.specs.FinMap.{FinMap}
use Rattle.gfx_base.specs.declared.bitmap.Bitmap.{Bitmap}
use Rattle.gfx_base.specs.declared.pixel.Pixel.{Pixel}
use Rattle.gfx_base.specs.declared.pixel.TheConstants.{BYTES_PER_PIXEL}
use Rattle.gfx_base.specs.declared.refusal.Refusal.{Refusal}
use Rattle.gfx_base.specs.declared.refusal.Refusal.TheVariants.{SlotRange, SlotEmpty, CacheBudget}
use Rattle.gfx_base.specs.Results.{◌>>=◌, check}
use Rattle.gfx_bitmap_cache.specs.declared.limits.TheConstants.{MOST_SLOTS, MOST_SMALL_SLOTS, MOST_BYTES, MOST_SMALL_BYTES}

-- what a bitmap shows: its sides, and its pixels row by row from the top
pub record Image : Type 0 where
  pub width : ℕ
  pub height : ℕ
  pub pixels : List Pixel

-- what a filled slot holds
pub record Entry : Type 0 where
  pub key : ℕ
  pub image : Image

-- the filled slots, and whether the small limits bind the stores
pub record Cached : Type 0 where
  pub slots : FinMap nat_cmp Entry
  pub small : Bool

abbrev pub image_of : Bitmap → Image
image_of bitmap = record { width = bitmap.width; height = bitmap.height; pixels = bitmap.pixels }

abbrev pub entry : ℕ → Image → Entry
entry key image = record { key = key; image = image }

abbrev pub cached : FinMap nat_cmp Entry → Bool → Cached
cached slots small = record { slots = slots; small = small }

-- how many bytes a bitmap of these sides takes
abbrev pub bytes_for : ℕ → ℕ → ℕ
bytes_for width height = BYTES_PER_PIXEL * (width * height)

-- how many bytes a bitmap takes
abbrev pub bytes_of : Entry → ℕ
bytes_of held = bytes_for held.image.width held.image.height

-- how many bytes a slot takes, which may be empty
abbrev pub bytes_at : Option Entry → ℕ
bytes_at held = option_map_or bytes_of held 0

-- how many bytes all bitmaps take together
abbrev pub total : FinMap nat_cmp Entry → ℕ
total slots = sum_by bytes_of (finmap.values slots)

-- how many bytes all bitmaps take together once this slot holds one of these sides
abbrev pub bytes_with : FinMap nat_cmp Entry → ℕ → ℕ → ℕ → ℕ
bytes_with slots slot width height = total (finmap.remove slots slot) + bytes_for width height

-- there is such a slot
abbrev pub is_slot : ℕ → Bool
is_slot slot = nat_le 1 slot && nat_le slot MOST_SLOTS

-- the last slot that a store takes
abbrev pub last_slot : Bool → ℕ
last_slot small = if small then MOST_SMALL_SLOTS else MOST_SLOTS

-- a store takes this slot
abbrev pub takes_slot : Bool → ℕ → Bool
takes_slot small slot = nat_le 1 slot && nat_le slot (last_slot small)

-- the most bytes that a store may leave
abbrev pub budget : Bool → ℕ
budget small = if small then MOST_SMALL_BYTES else MOST_BYTES

-- a bitmap of these sides is within the budget in this slot
abbrev pub has_room : Cached → ℕ → ℕ → ℕ → Bool
has_room cache slot width height = nat_le (bytes_with cache.slots slot width height) (budget cache.small)

-- what holds of every cache: its filled slots are slots, and its bytes are within the large limit
pub record IsCached (cache : Cached) : Type 0 where
  pub slots : (slot : ℕ) → IsSome (finmap.get cache.slots slot) → IsTrue (is_slot slot)
  pub within : total cache.slots ≤ MOST_BYTES

-- the cache after a store, or the first reason against it: the budget is that of all bitmaps after the store
unfoldable pub stored : Cached → ℕ → Entry → Result Cached Refusal
stored cache slot held = do
  taken ← check SlotRange (takes_slot cache.small slot)
  room ← check CacheBudget (nat_le (total (finmap.insert cache.slots slot held)) (budget cache.small))
  Ok (cached (finmap.insert cache.slots slot held) cache.small)

-- the image that a slot holds, or the first reason against it: the small limits don't bind this
unfoldable pub shown : Cached → ℕ → Result Image Refusal
shown cache slot = do
  there ← check SlotRange (is_slot slot)
  held ← ok_or (finmap.get cache.slots slot) SlotEmpty
  Ok held.image

-- the cache after a slot is emptied, or the reason against it
unfoldable pub evicted : Cached → ℕ → Result Cached Refusal
evicted cache slot = do
  there ← check SlotRange (is_slot slot)
  Ok (cached (finmap.remove cache.slots slot) cache.small)
