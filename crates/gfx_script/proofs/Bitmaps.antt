-- Bitmaps that are kept, by what was chosen for them and by the sides of their slots.
use Rattle.std.proofs.Common.{◌≡◌, ◌∙◌, ℕ, Option, Some, Ok, sym, ap}
use Rattle.std.specs.FinMap.{FinMap, get, insert}
use Rattle.std.specs.Option.{ok_or}
use Rattle.std.specs.Ordering.{nat_cmp}
use Rattle.gfx_base.proofs.ResultLemmas.{and_then_at}
use Rattle.gfx_slot_plan.specs.declared.kept.Kept.{Kept}
use Rattle.gfx_slot_plan.specs.Plan.{Plan, keeps, slot_of}
use Rattle.gfx_script.specs.declared.error.ScriptKind.TheVariants.{KeyAbsent}
use Rattle.gfx_script.specs.declared.held.Sides.{Sides}
use Rattle.gfx_script.specs.Stock.{Stock, or_too_large, bitmap_kept, bitmap_sides}

pub kept_bitmap : (stock : Stock) (key width height : ℕ) (plan : Plan) (kept : Kept) (sides : FinMap nat_cmp Sides)
    → keeps stock.plan key width height ≡ Ok (plan, kept)
    → sides ≡ insert stock.sides kept.slot record { width = width; height = height }
    → bitmap_kept stock key width height ≡ Ok record { plan = plan; sides = sides }
unfolding bitmap_kept
kept_bitmap stock key width height plan kept sides found is =
    and_then_at (or_too_large (keeps stock.plan key width height)) (plan, kept) _ (ap or_too_large found)
    ∙ ap (λ s. Ok record { plan = plan; sides = s }) (sym is)

-- what the slot of a key has
pub slot_has : (stock : Stock) (key slot : ℕ) (found : Option Sides) → Some slot ≡ slot_of key stock.plan.places → get stock.sides slot ≡ found
    → ok_or found KeyAbsent ≡ bitmap_sides stock key
unfolding bitmap_sides
slot_has stock key slot found has is =
    sym (and_then_at (ok_or (slot_of key stock.plan.places) KeyAbsent) slot _ (ap (λ s. ok_or s KeyAbsent) (sym has)) ∙ ap (λ s. ok_or s KeyAbsent) is)
