-- What the slots of the bitmap cache hold, and what is left when some are emptied ([MS-RDPEGFX] 2.2.2.6, 2.2.2.7 and
-- 2.2.2.8 fill, show and empty a slot). That a key names a bitmap, and its slot is chosen for it, is this project's own
-- rule.
use Rattle.std.specs.Prelude.{ℕ, List, fold, Option, Some, None, option_map}
use Rattle.std.specs.Ordering.{nat_cmp}
use Rattle.std.specs.FinMap.{FinMap, get, remove}
use Rattle.gfx_bitmap_cache.specs.Slots.{Entry}
use Rattle.gfx_slot_plan.specs.Plan.{Plan, slot_of}
use Rattle.gfx_script.specs.declared.held.Sides.{Sides}

-- the bitmap in a slot: none where there is no slot, or nothing in it
abbrev pub bitmap_in : FinMap nat_cmp Entry → Option ℕ → Option Entry
bitmap_in slots None = None
bitmap_in slots (Some slot) = get slots slot

-- the slots, with one of them emptied: all as they were where there is none to empty
abbrev pub without_slot : FinMap nat_cmp Entry → Option ℕ → FinMap nat_cmp Entry
without_slot slots None = slots
without_slot slots (Some slot) = remove slots slot

-- the slots, with these emptied one after another
abbrev pub emptied : FinMap nat_cmp Entry → List ℕ → FinMap nat_cmp Entry
emptied slots gone = fold (λ left slot. remove left slot) slots gone

-- the sides of a bitmap
abbrev pub sides_in : Entry → Sides
sides_in e = record { width = e.image.width; height = e.image.height }

-- the sides of the bitmap of a key: none where the key has no slot. By them one knows where a step writes that shows it
abbrev pub sides_kept : Plan → FinMap nat_cmp Entry → ℕ → Option Sides
sides_kept kept slots key = option_map sides_in (bitmap_in slots (slot_of key kept.places))
