-- How what is held is coded, as the value of a model has to be.
use Rattle.std.specs.Prelude.{ℕ, List, refl}
use Rattle.std.specs.Coded.{Coded, code_by, coded×, coded_ℕ, coded_list}
use Rattle.std.specs.Ordering.{nat_cmp}
use Rattle.std.specs.FinMap as finmap
use Rattle.std.specs.FinMap.{FinMap}
use Rattle.gfx_slot_plan.specs.Codes.{plan_code}
use Rattle.gfx_slot_plan.specs.Plan.{Plan}
use Rattle.gfx_script.specs.Checks.{Held, Sides}
use Rattle.gfx_script.specs.Stock.{Stock}

-- sides as two numbers
abbrev pub sides_code : Coded Sides
sides_code = code_by (ℕ × ℕ) (coded× coded_ℕ coded_ℕ) (λ s. (s.width, s.height)) (λ t. record { width = t.0; height = t.1 }) (λ _. refl)

abbrev pub stock_code : Coded Stock
stock_code =
    code_by (Plan × FinMap nat_cmp Sides) (coded× plan_code (finmap.code coded_ℕ sides_code))
    (λ s. (s.plan, s.sides)) (λ t. record { plan = t.0; sides = t.1 }) (λ _. refl)

abbrev pub held_code : Coded Held
held_code =
    code_by (List Sides × (FinMap nat_cmp Sides × (ℕ × Stock))) (coded× (coded_list sides_code) (coded× (finmap.code coded_ℕ sides_code) (coded× coded_ℕ stock_code)))
    (λ h. (h.pictures, (h.sides, (h.cells, h.stock))))
    (λ t. record { pictures = t.0; sides = t.1.0; cells = t.1.1.0; stock = t.1.1.1 }) (λ _. refl)
