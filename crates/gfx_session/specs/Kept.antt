-- For which of the schedule's ends the server's end of a session stands. It keeps past states by their digests, if at
-- all, and of its client's bytes those that aren't a whole message yet.
use Rattle.std.specs.Prelude.{◌≡◌, ℕ, ◌+◌, false, List, drop, length, map, Option, Some, None, is_some}
use Rattle.gfx_chooser.specs.Choosing.{Chooser}
use Rattle.gfx_chooser.specs.Kinded as chosen
use Rattle.gfx_planner.specs.Planned.{ready}
use Rattle.gfx_report.specs.StateBytes.{digest_of}
use Rattle.gfx_schedule.specs.Plan.{InPlanFrom}
use Rattle.gfx_schedule.specs.ServerEnd.{ScheduledEnd}
use Rattle.gfx_schedule.specs.Starts.{MayBegin, Start}
use Rattle.gfx_script.specs.Checks.{Held}
use Rattle.gfx_script.specs.Kinds.{KindedStep}
use Rattle.gfx_script.specs.Script.{IsAcceptedFrom}
use Rattle.gfx_script.specs.Scripted.{Script}
use Rattle.gfx_segment.specs.Framing.{Short, front, holding}
use Rattle.gfx_session.specs.declared.digests.Digests.{Digests}
use Rattle.gfx_session.specs.declared.digests.Digests.TheVariants.{Off, On}
use Rattle.gfx_session.specs.declared.server_end.ServerEnd.{ServerEnd}
use Rattle.gfx_state.specs.State.{State}

-- the digest of a state
abbrev pub digest_in : State → List ℕ
digest_in state = digest_of state.shown.surfaces state.cache.slots state.clear.rings state.clear.glyphs

-- what is kept of a past state: its digest, where digests are on
abbrev pub noted : Digests → State → Option (List ℕ)
noted On state = Some (digest_in state)
noted Off state = None

-- a server's end, spent or not, hears its client as one of the schedule's does: by the frames in flight, each with what
-- is kept of the state right after it, whether a version is confirmed, and the bytes that aren't a whole message yet
pub record ListensAs (end : ServerEnd) (at : ScheduledEnd) : Type 0 where
  pub window : end.window ≡ at.window
  pub ends : end.ends.items ≡ map (noted end.digests) at.ends
  pub even : length at.ends ≡ length at.window.flying
  pub confirmed : end.confirmed ≡ at.confirmed
  pub closed : end.closed ≡ is_some at.stopped
  pub heard : at.stopped ≡ None → end.splitter ≡ holding at.heard
  pub short : at.stopped ≡ None → front at.heard ≡ Short

-- a server's end that isn't spent stands for one of the schedule's: it hears its client as that one does, has planned
-- what that one has, and the same steps are left, whatever kinds they go as
pub record Stands (end : ServerEnd) (at : ScheduledEnd) : Type 0 where
  pub fresh : end.spent ≡ false
  pub listens : ListensAs end at
  pub planned : end.planner ≡ ready at.server
  pub last : end.last ≡ at.last
  pub left : map (λ one. one.step) at.left ≡ drop at.last end.script.steps

-- the steps that are left go as these choosers choose
abbrev pub GoesBy : Script → List Chooser → ScheduledEnd → Type 0
GoesBy script choosers at = at.left ≡ chosen.kinded script (at.last + 1) choosers (drop at.last script.steps)

-- a server's end plans as before, whatever it has heard: the script is as it was, and so are the steps that wait, those
-- that are left, what was planned, and whether digests are on
pub record PlansAsBefore (old new : ServerEnd) : Type 0 where
  pub script : new.script ≡ old.script
  pub last : new.last ≡ old.last
  pub planner : new.planner ≡ old.planner
  pub spent : new.spent ≡ old.spent
  pub pending : new.window.pending ≡ old.window.pending
  pub digests : new.digests ≡ old.digests

-- what the planner of a server's end has is in step with the script, which began so, its first step checked against what
-- was held, and whose steps go as these kinds
pub record InStep (held : Held) (end : ServerEnd) : Type 0 where
  pub origin : Start
  pub checks : origin.held ≡ held
  pub kinded : List KindedStep
  pub begins : MayBegin origin end.script kinded
  pub at : ScheduledEnd
  pub gone : List KindedStep
  pub waiting : List KindedStep
  pub plan : InPlanFrom origin end.script kinded at gone waiting
  pub last : end.last ≡ at.last
  pub window : end.window ≡ at.window
  pub planned : end.planner ≡ ready at.server

-- what holds of every server's end that is made, and stays through each of its calls: its script is accepted, as checked
-- against what was held before it, and while it isn't spent it is in step with it
pub record IsServerEndFrom (held : Held) (end : ServerEnd) : Type 0 where
  pub good : IsAcceptedFrom held end.script
  pub in_step : end.spent ≡ false → InStep held end

-- whatever was held
abbrev pub IsServerEnd : ServerEnd → Type 0
IsServerEnd end = (held : Held) × IsServerEndFrom held end
