-- How a plan is coded, as the value of a model has to be.
use Rattle.std.specs.Prelude.{ℕ, Bool, refl}
use Rattle.std.specs.Coded.{Coded, code_by, coded×, coded_ℕ, coded_bool, coded_list}
use Rattle.gfx_slot_plan.specs.declared.allocation.Allocation.{Allocation}
use Rattle.gfx_slot_plan.specs.Plan.{Allocations, Plan}

-- a place as its slot and its bytes
abbrev pub place_code : Coded Allocation
place_code = code_by (ℕ × ℕ) (coded× coded_ℕ coded_ℕ) (λ p. (p.slot, p.bytes)) (λ t. record { slot = t.0; bytes = t.1 }) (λ _. refl)

-- a plan as its places and the word small
abbrev pub plan_code : Coded Plan
plan_code =
    code_by (Allocations × Bool) (coded× (coded_list (coded× coded_ℕ place_code)) coded_bool)
    (λ p. (p.places, p.small)) (λ t. record { places = t.0; small = t.1 }) (λ _. refl)
