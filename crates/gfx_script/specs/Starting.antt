-- The bitmaps that both ends have before the first step of a script ([MS-RDPEGFX] 3.2.5.13), as far as steps are checked
-- against them: this project's own rule.
use Rattle.std.specs.Prelude.{ℕ, ◌+◌, Bool, List, [], ◌∷◌, map}
use Rattle.std.specs.Ordering.{nat_cmp}
use Rattle.std.specs.FinMap.{FinMap, empty, insert}
use Rattle.gfx_bitmap_cache.specs.Slots.{Entry, bytes_for}
use Rattle.gfx_slot_plan.specs.Plan.{IsPlan}
use Rattle.gfx_slot_plan.specs.Started.{plan_with}
use Rattle.gfx_script.specs.Stock.{Stock}
use Rattle.gfx_script.specs.declared.held.Sides.{Sides}
use Rattle.gfx_script.specs.declared.start.StartBitmap.{StartBitmap}

-- the key and the sides of an entry, and of all
abbrev pub start_of : Entry → StartBitmap
start_of one = record { key = one.key; sides = record { width = one.image.width; height = one.image.height } }

abbrev pub starts_of : List Entry → List StartBitmap
starts_of entries = map start_of entries

-- a key, and how many bytes its bitmap takes
abbrev pub key_bytes : StartBitmap → ℕ × ℕ
key_bytes one = (one.key, bytes_for one.sides.width one.sides.height)

-- the sides of bitmaps in slots from this one on
abbrev pub sides_from : FinMap nat_cmp Sides → ℕ → List StartBitmap → FinMap nat_cmp Sides
sides_from sides at [] = sides
sides_from sides at (one ∷ more) = sides_from (insert sides at one.sides) (at + 1) more

-- these bitmaps are kept, in slots 1, 2 and so on; the last is the most recently used
abbrev pub stock_with : List StartBitmap → Bool → Stock
stock_with start small = record { plan = plan_with (map key_bytes start) small; sides = sides_from empty 1 start }

-- no key is there twice, and there are slots and room for all
abbrev pub IsStart : List StartBitmap → Bool → Type 0
IsStart start small = IsPlan (plan_with (map key_bytes start) small)
