-- What all bitmaps take together, after a change.
use Rattle.std.proofs.Common.{◌≡◌, ◌≤◌, ◌+◌, ℕ, arith}
use Rattle.std.specs.Ordering.{nat_cmp}
use Rattle.std.specs.FinMap.{FinMap, get, insert, remove, empty}
use Rattle.gfx_base.proofs.MapLemmas.{sum-insert, sum-remove, sum-empty}
use Rattle.gfx_bitmap_cache.specs.Slots.{Entry, bytes_of, bytes_at, bytes_with, total}

-- a store adds its bytes and gives back those of what the slot held
pub total-insert : (m : FinMap nat_cmp Entry) (k : ℕ) (v : Entry) → total (insert m k v) + bytes_at (get m k) ≡ total m + bytes_of v
total-insert m k v = sum-insert bytes_of m k v

-- what is taken out gives its bytes back
pub total-remove : (m : FinMap nat_cmp Entry) (k : ℕ) → total (remove m k) + bytes_at (get m k) ≡ total m
total-remove m k = sum-remove bytes_of m k

-- a store leaves the bytes of the other slots and its own
pub total-with : (m : FinMap nat_cmp Entry) (k : ℕ) (v : Entry) → total (insert m k v) ≡ bytes_with m k v.image.width v.image.height
total-with m k v =
    let adds = total-insert m k v in
    let gives = total-remove m k in
    omega (arith, adds, gives)

-- the empty map has none
pub total-empty : total empty ≡ 0
total-empty = sum-empty bytes_of

-- a slot takes no more than all of them
pub bytes_at-most : (m : FinMap nat_cmp Entry) (k : ℕ) → bytes_at (get m k) ≤ total m
bytes_at-most m k = let e = total-remove m k in omega (arith, e)
