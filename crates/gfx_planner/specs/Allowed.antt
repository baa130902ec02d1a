-- When a step may be put: in which frame, and with which numbers, kind and checks. What a call of the planner asks of its
-- caller, this project's own rule.
use Rattle.std.specs.Prelude.{◌≡◌, ◌⊎◌, ℕ, List, Option, Some, None, option_map, Ok}
use Rattle.gfx_script.specs.Checks.{Held, held_after}
use Rattle.gfx_script.specs.declared.step.Kind.{Kind}
use Rattle.gfx_script.specs.declared.step.Step.{Step}
use Rattle.gfx_script.specs.Kinds.{KindedStep, as_kind, HasKind}
use Rattle.gfx_script.specs.Script.{IsStep, step_at}
use Rattle.gfx_script.specs.Scripted.{Script}
use Rattle.gfx_planner.specs.Server.{Server}
use Rattle.gfx_planner.specs.Holds.{Holds}

-- the frame that was opened last is open
abbrev pub IsInFrame : Server → Type 0
IsInFrame server = server.state.frame ≡ Some server.frames

-- no frame is open, or that one
abbrev pub KeepsFrame : Server → Type 0
KeepsFrame server = (server.state.frame ≡ None) ⊎ IsInFrame server

-- the step's numbers are in their ranges, it goes as a kind as which it may go, and its checks pass, which are right
-- about the server's end
pub record IsAllowed (script : Script) (server : Server) (one : KindedStep) : Type 0 where
  pub numbers : IsStep one.step
  pub kind : HasKind one
  pub held : Held
  pub holds : Holds script held server
  pub after : Held
  pub checked : held_after held one.step ≡ Ok after

-- the same of a step that may be missing: then it may not be put
abbrev pub IsAllowedStep : Script → Server → Option KindedStep → Type 0
IsAllowedStep script server None = ⊥
IsAllowedStep script server (Some one) = IsAllowed script server one

-- the step of this number, counted from 1, as it goes as a kind: none where there is no such step
abbrev pub kinded_at : List Step → ℕ → Option Kind → Option KindedStep
kinded_at steps number kind = option_map (as_kind kind) (step_at steps number)
