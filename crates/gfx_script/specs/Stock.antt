-- The bitmaps that the steps so far keep, as far as later steps are checked against them: this
-- project's own rule. Which keys are held, and in which slots, is what the server's end chooses.
use Rattle.std.specs.Prelude.{ℕ, Bool, [], Result, Ok, Err, is_some}
use Rattle.std.specs.Option.{ok_or}
use Rattle.std.specs.Ordering.{nat_cmp}
use Rattle.std.specs.FinMap as finmap
use Rattle.std.specs.FinMap.{FinMap}
use Rattle.gfx_base.specs.declared.refusal.Refusal.{Refusal}
use Rattle.gfx_base.specs.Results.{◌>>=◌, check}
use Rattle.gfx_slot_plan.specs.declared.kept.Kept.{Kept}
use Rattle.gfx_slot_plan.specs.Plan.{Plan, plan, keeps, touched, forgotten, slot_of}
use Rattle.gfx_script.specs.declared.error.ScriptKind.{ScriptKind}
use Rattle.gfx_script.specs.declared.error.ScriptKind.TheVariants.{KeyAbsent, BitmapSize}
use Rattle.gfx_script.specs.declared.held.Sides.{Sides}

pub record Stock : Type 0 where
  -- the keys that are held, and their slots
  pub plan : Plan
  -- the sides of the last bitmap of each slot
  pub sides : FinMap nat_cmp Sides

-- no bitmaps, under the small limits or the large ones
abbrev pub no_bitmaps : Bool → Stock
no_bitmaps small = record { plan = plan [] small; sides = finmap.empty }

-- the one fault of a bitmap that is to be kept
abbrev pub or_too_large : Result (Plan × Kept) Refusal → Result (Plan × Kept) ScriptKind
or_too_large (Ok found) = Ok found
or_too_large (Err r) = Err BitmapSize

-- a bitmap of these sides is kept
unfoldable pub bitmap_kept : Stock → ℕ → ℕ → ℕ → Result Stock ScriptKind
bitmap_kept stock key width height = do
  found ← or_too_large (keeps stock.plan key width height)
  Ok record { plan = found.0; sides = finmap.insert stock.sides found.1.slot record { width = width; height = height } }

-- the sides of a key's bitmap
unfoldable pub bitmap_sides : Stock → ℕ → Result Sides ScriptKind
bitmap_sides stock key = do
  slot ← ok_or (slot_of key stock.plan.places) KeyAbsent
  ok_or (finmap.get stock.sides slot) KeyAbsent

-- a bitmap is shown, which makes its key the most recently used
abbrev pub bitmap_shown : Stock → ℕ → Stock
bitmap_shown stock key = record stock { plan = touched stock.plan key }

-- a bitmap is held no more
unfoldable pub bitmap_forgotten : Stock → ℕ → Result Stock ScriptKind
bitmap_forgotten stock key = do
  there ← check KeyAbsent (is_some (slot_of key stock.plan.places))
  Ok (record stock { plan = forgotten stock.plan key })
