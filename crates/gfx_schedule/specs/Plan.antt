-- When the server's end of a session is in step with its script: this project's own rule.
use Rattle.std.specs.Prelude.{◌≡◌, ◌≤◌, ◌+◌, List, ◌++◌, length, map, None, Ok}
use Rattle.gfx_script.specs.Checks.{Held, held_through}
use Rattle.gfx_script.specs.Kinds.{KindedStep}
use Rattle.gfx_script.specs.Scripted.{Script}
use Rattle.gfx_planner.specs.Want.{want_from}
use Rattle.gfx_planner.specs.Agree.{Agree}
use Rattle.gfx_planner.specs.Holds.{Holds}
use Rattle.gfx_schedule.specs.ServerEnd.{ScheduledEnd, numbered}
use Rattle.gfx_schedule.specs.Starts.{Start, from_nothing}

-- of the steps of a script, which go as these kinds, the first were sent or left out, the next wait, and the
-- others are left. What was sent is in step with the first: the checks of the next hold on it, and it shows
-- what the first want
pub record InPlanFrom (start : Start) (script : Script) (kinded : List KindedStep) (end : ScheduledEnd) (gone waiting : List KindedStep) : Type 0 where
  pub cut : kinded ≡ gone ++ (waiting ++ end.left)
  pub last : end.last ≡ length gone + length waiting
  pub pending : end.window.pending ≡ numbered (length gone + 1) waiting
  pub held : Held
  pub checked : held_through start.held (map (λ one. one.step) gone) ≡ Ok held
  pub holds : Holds script held end.server
  pub agrees : Agree end.server (want_from script start.wanted gone)
  pub frame : end.server.state.frame ≡ None
  pub frames : end.server.frames ≤ length gone

-- the same of a session that starts from nothing
abbrev pub InPlan : Script → List KindedStep → ScheduledEnd → List KindedStep → List KindedStep → Type 0
InPlan script kinded end gone waiting = InPlanFrom (from_nothing script) script kinded end gone waiting
