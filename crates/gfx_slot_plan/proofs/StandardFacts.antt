-- A small cache that one bitmap fills, computed from the definitions.
use Rattle.std.proofs.Common.{◌≡◌, [], ◌∷◌, true, Ok, Err, refl}
use Rattle.gfx_base.specs.declared.refusal.Refusal.TheVariants.{CacheBudget}
use Rattle.gfx_base.specs.Results.{and_then}
use Rattle.gfx_slot_plan.specs.Plan.{plan, place, keeps}
use Rattle.gfx_slot_plan.specs.History.{Keep, Show, last_use, after_event, after_history}

pub slot_budget : (keeps (plan [] true) 1 2048 2048 ≡ Ok (plan ((1, place 1 16777216) ∷ []) true, record { dropped = []; slot = 1 }))
    × (keeps (plan ((1, place 1 16777216) ∷ []) true) 2 1 1 ≡ Ok (plan ((2, place 1 4) ∷ []) true, record { dropped = 1 ∷ []; slot = 1 }))
    × (keeps (plan ((2, place 1 4) ∷ []) true) 3 2049 2048 ≡ Err CacheBudget)
unfolding keeps and_then
slot_budget = (refl, refl, refl)

-- a key that was shown stays in place of one that was kept after it
pub shown_later : last_use 1 (Show 1 ∷ Keep 2 1 1 ∷ Keep 1 1 1 ∷ []) ≡ 3
shown_later = refl

pub dropped_in_history : after_history true (Keep 2 1 1 ∷ Keep 1 2048 2048 ∷ []) ≡ Ok (plan ((2, place 1 4) ∷ []) true)
unfolding after_history after_event keeps and_then
dropped_in_history = refl
