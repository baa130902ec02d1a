-- How the free slots are kept.
use Rattle.std.specs.Prelude.{◌≡◌, ℕ, ◌+◌, ◌<◌, ◌≤◌, true, nat_eq, map, length}
use Rattle.std.specs.List.{list_any, IsDistinct}
use Rattle.std.specs.Ordering.{nat_cmp}
use Rattle.std.specs.BinaryHeap.{heap_items, heap_len, heap_capacity, IsHeap}
use Rattle.gfx_bitmap_cache.specs.declared.limits.TheConstants.{MOST_SLOTS}
use Rattle.gfx_slot_plan.specs.declared.pool.FreeSlots.TheInside.{Inside}
use Rattle.gfx_slot_plan.specs.Pool.{Pool, pool}

-- the pool of the fields
abbrev pub pool_of : Inside → Pool
pool_of a = pool a.next a.last (map (λ slot. slot.0) (heap_items a.returned))

-- what was given back is a heap with the least first, each once and below next, and there is room for all slots
pub record IsPool (a : Inside) : Type 0 where
  pub ordered : IsHeap (λ x y. nat_cmp y.0 x.0) (heap_items a.returned)
  pub distinct : IsDistinct nat_eq (pool_of a).returned
  pub below : (slot : ℕ) → list_any (nat_eq slot) (pool_of a).returned ≡ true → (1 ≤ slot) × (slot < a.next)
  pub first : 1 ≤ a.next
  pub within : a.next ≤ a.last + 1
  pub last : a.last ≤ MOST_SLOTS
  pub room : a.last ≤ heap_capacity a.returned
  pub sized : heap_len a.returned ≡ length (heap_items a.returned)
