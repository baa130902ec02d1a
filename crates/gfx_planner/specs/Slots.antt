-- When the choice of slots agrees with the bitmap cache: the slot of each key holds its bitmap. This project's own rule.
use Rattle.std.specs.Prelude.{◌≡◌, ℕ, Option, Some, option_map}
use Rattle.std.specs.List.{AllByRecursion}
use Rattle.std.specs.Ordering.{nat_cmp}
use Rattle.std.specs.FinMap.{FinMap, get}
use Rattle.gfx_bitmap_cache.specs.Slots.{Cached, Entry, bytes_of, total as total_in}
use Rattle.gfx_script.specs.declared.held.Sides.{Sides}
use Rattle.gfx_slot_plan.specs.declared.allocation.Allocation.{Allocation}
use Rattle.gfx_slot_plan.specs.Plan.{Plan, Allocations, IsPlan, total}
use Rattle.gfx_planner.specs.Bitmaps.{sides_in}

-- a slot holds the bitmap of this key, in as many bytes as the choice counts for it
abbrev pub InSlot : Option Entry → ℕ × Allocation → Type 0
InSlot o held = (e : Entry) × (o ≡ Some e) × (e.key ≡ held.0) × (bytes_of e ≡ held.1.bytes)

-- the slot of each key holds its bitmap, and no other bitmap counts for the budget of the cache
pub record PlanFitsCache (p : Plan) (cache : Cached) : Type 0 where
  pub sound : IsPlan p
  pub each : AllByRecursion (λ held. InSlot (get cache.slots held.1.slot) held) p.places
  pub bytes : total_in cache.slots ≡ total p.places

-- the sides that are noted for the slot of a key are those of the bitmap there
abbrev pub SidesIn : FinMap nat_cmp Sides → Option Entry → ℕ × Allocation → Type 0
SidesIn sides o held = get sides held.1.slot ≡ option_map sides_in o

-- so they are for each key
abbrev pub SidesFitSlots : Allocations → FinMap nat_cmp Sides → FinMap nat_cmp Entry → Type 0
SidesFitSlots places sides slots = AllByRecursion (λ held. SidesIn sides (get slots held.1.slot) held) places
