-- For which of the schedule's ends a server's end stands whose script grows, and has forgotten what was sent and what need not
-- be: the script of that is whole. What may be forgotten while steps wait. This project's own rule.
use Rattle.std.specs.Prelude.{◌≡◌, ◌-◌, ◌⊎◌, ℕ, List, [], drop, length, map, take}
use Rattle.std.specs.List.{AllByRecursion}
use Rattle.gfx_schedule.specs.Feeding.{grown, with_more}
use Rattle.gfx_schedule.specs.Forgetting.{IsBehind}
use Rattle.gfx_schedule.specs.ServerEnd.{ScheduledEnd}
use Rattle.gfx_schedule.specs.Sparing.{Spares}
use Rattle.gfx_script.specs.declared.picture.Picture.{Picture}
use Rattle.gfx_script.specs.declared.step.Step.{Step}
use Rattle.gfx_script.specs.declared.step.Step.TheVariants.{Frame}
use Rattle.gfx_script.specs.Kinds.{KindedStep}
use Rattle.gfx_script.specs.Scripted.{Script}
use Rattle.gfx_script.specs.Sparing.{Marks, spared}
use Rattle.gfx_window.specs.Sparing.{items_marked, surely_sent}
use Rattle.gfx_window.specs.Window.{Window}
use Rattle.gfx_session.specs.Kept.{Stands}
use Rattle.gfx_session.specs.declared.server_end.ServerEnd.{ServerEnd}

-- a server's end stands for one of the schedule's whose script is all that was ever pushed in whole frames: of the steps of
-- that which were sent its own has forgotten some, and pictures, or their pixels, that no step paints which has still to be sent
pub record StandsWhole (end : ServerEnd) (whole : Script) (at : ScheduledEnd) : Type 0 where
  pub stands : Stands end at
  pub over : ℕ
  pub spares : Spares over whole end.script at
  pub behind : IsBehind over at

-- steps and pictures were pushed in whole frames: it stands for the schedule's end with these, whatever kinds they go as
abbrev pub StandsWithMore : List Picture → List Step → ServerEnd → ServerEnd → Type 0
StandsWithMore pictures steps old new =
    (whole : Script) (at : ScheduledEnd) (more : List KindedStep) → StandsWhole old whole at → map (λ one. one.step) more ≡ steps
    → StandsWhole new (grown whole pictures more) (with_more at more)

-- what may be spared -----------------------------------------------------------------------------------------------------

-- the marks of the pictures whose paints surely have to be sent, where so many items waited before the newest; more may be
-- marked beside them
abbrev pub marked_for : Script → Window → ℕ → Marks → Marks
marked_for script window waited marks = items_marked script marks (surely_sent script (take waited window.pending) (drop waited window.pending))

-- the pixels of all other pictures may be forgotten: nothing is left to be queued, and of the steps before those that wait
-- only frames are left
pub record MaySpare (end : ServerEnd) : Type 0 where
  pub left : drop end.last end.script.steps ≡ []
  pub gone : AllByRecursion (λ step. step ≡ Frame) (take (end.last - length end.window.pending) end.script.steps)

-- and they were
pub record HasSpared (waited : ℕ) (old new : ServerEnd) : Type 0 where
  pub may : MaySpare old
  pub marks : Marks
  pub spared : new ≡ record old { script = spared (marked_for old.script old.window waited marks) old.script }

-- or nothing was forgotten
abbrev pub SparesWaiting : ℕ → ServerEnd → ServerEnd → Type 0
SparesWaiting waited old new = (new ≡ old) ⊎ HasSpared waited old new
