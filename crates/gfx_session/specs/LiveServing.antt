-- What a turn of a live end does, and what it forgets then: what was sent, and what need not be. This project's own rule.
use Rattle.std.specs.Prelude.{◌≡◌, ◌⊎◌, ℕ, Bool, true, false, List, ◌++◌, length, if◌then◌else◌, Result, Ok, Err}
use Rattle.gfx_base.specs.declared.answer.NoMemory.{NoMemory}
use Rattle.gfx_chooser.specs.Choosing.{Chooser}
use Rattle.gfx_chooser.specs.Kinded.{Asks}
use Rattle.gfx_planner.specs.Planned.{PutsFront}
use Rattle.gfx_schedule.specs.ServerEnd.{ScheduledEnd, serves, serving}
use Rattle.gfx_schedule.specs.declared.turned.Turned.{Turned}
use Rattle.gfx_script.specs.Forgetting.{draft_forgotten, forgotten}
use Rattle.gfx_script.specs.Scripted.{Script}
use Rattle.gfx_script.specs.Sparing.{Marks, spared}
use Rattle.gfx_session.specs.Kept.{GoesBy}
use Rattle.gfx_session.specs.Serving.{ListensOn, turn_answer}
use Rattle.gfx_session.specs.declared.server_end.ServerEnd.{ServerEnd}
use Rattle.gfx_session.specs.declared.live_end.LiveEnd.{LiveEnd}
use Rattle.gfx_session.specs.Live.{has_sent_all}
use Rattle.gfx_session.specs.Whole.{SparesWaiting, StandsWhole}

-- a live end whose script has forgotten all of its steps and pictures; what was pushed since keeps its numbers
abbrev pub sent_forgotten : LiveEnd → LiveEnd
sent_forgotten live = record live {
  end = record live.end { script = forgotten live.end.script };
  draft = draft_forgotten (length live.end.script.pictures) live.draft;
}

-- what is forgotten behind a turn: all of it, where all was sent; else at most pixels of pictures whose paints wait and need
-- not be sent, where so many items waited before it
abbrev pub Forgets : Bool → ℕ → LiveEnd → LiveEnd → Type 0
Forgets true waited old new = new ≡ sent_forgotten old
Forgets false waited old new = (new.draft ≡ old.draft) × SparesWaiting waited old.end new.end

-- the script that is left then: forgotten, or as it was but for such pixels
abbrev pub LeavesScript : Bool → Script → Script → Type 0
LeavesScript true old new = new ≡ forgotten old
LeavesScript false old new = (new ≡ old) ⊎ ((marks : Marks) × (new ≡ spared marks old))

-- this holds of whichever of the schedule's ends a server's end stands for with its whole script, where the steps that are
-- left go as these choosers choose
abbrev pub WhereWhole : ServerEnd → List Chooser → (Script → ScheduledEnd → Type 0) → Type 0
WhereWhole end choosers holds = (whole : Script) (at : ScheduledEnd) → StandsWhole end whole at → GoesBy end.script choosers at → holds whole at

-- what a turn does: what one of the schedule's end does with the whole script. Where all was sent then, it is forgotten, and
-- else at most pixels that need not be sent.
-- Without memory the live end is spent, and hears its client as ever
abbrev pub ServesLive : Result Turned NoMemory → LiveEnd → LiveEnd → List Chooser → List Chooser → List ℕ → List ℕ → Type 0
ServesLive (Ok turned) old new choosers left before now =
    (old.end.spent ≡ false) × Asks old.end.script old.end.last new.end.last choosers left
    × WhereWhole old.end choosers (λ whole at. StandsWhole new.end whole (serves whole at) × (now ≡ before ++ serving whole at) × (turned ≡ turn_answer at))
    × (new.end.digests ≡ old.end.digests)
    × (LeavesScript (has_sent_all new.end) old.end.script new.end.script
    × (new.draft ≡ (if has_sent_all new.end then draft_forgotten (length old.end.script.pictures) old.draft else old.draft)))
ServesLive (Err e) old new choosers left before now =
    (new.end.spent ≡ true) × (new.end.script ≡ old.end.script) × (old.end.spent ≡ true → now ≡ before)
    × WhereWhole old.end choosers (λ whole at. PutsFront before now (serving whole at))
    × ListensOn old.end new.end × (new.end.digests ≡ old.end.digests) × (new.draft ≡ old.draft)
