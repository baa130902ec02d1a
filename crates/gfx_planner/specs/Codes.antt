-- How a planner is coded, as the value of a model has to be: this project's own words.
use Rattle.std.specs.Prelude.{refl, ℕ, Bool}
use Rattle.std.specs.Coded.{Coded, code_by, coded×, coded_ℕ, coded_bool}
use Rattle.gfx_prog_live.specs.Codes.{passes_code}
use Rattle.gfx_prog_live.specs.Live.{Passes}
use Rattle.gfx_slot_plan.specs.Codes.{plan_code}
use Rattle.gfx_slot_plan.specs.Plan.{Plan}
use Rattle.gfx_state.specs.Codes.{state_code}
use Rattle.gfx_state.specs.State.{State}
use Rattle.gfx_planner.specs.Planned.{Planned}

-- by the state, the choice of slots, the live tiles, the number of frames, and whether it is spent
abbrev pub planned_code : Coded Planned
planned_code =
    code_by (State × (Plan × (Passes × (ℕ × Bool)))) (coded× state_code (coded× plan_code (coded× passes_code (coded× coded_ℕ coded_bool))))
    (λ p. (p.server.state, (p.server.plan, (p.server.passes, (p.server.frames, p.spent)))))
    (λ t. record { server = record { state = t.0; plan = t.1.0; passes = t.1.1.0; frames = t.1.1.1.0 }; spent = t.1.1.1.1 }) (λ _. refl)
