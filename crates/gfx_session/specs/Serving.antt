-- What a turn of a server's end does: what a turn does of the schedule's end for which it stands (`serves` and `serving`
-- in gfx_schedule/specs/ServerEnd).
use Rattle.std.specs.Prelude.{◌≡◌, ℕ, true, false, List, ◌++◌, Result, Ok, Err, if◌then◌else◌}
use Rattle.gfx_base.specs.declared.answer.NoMemory.{NoMemory}
use Rattle.gfx_chooser.specs.Choosing.{Chooser}
use Rattle.gfx_chooser.specs.Kinded.{Asks}
use Rattle.gfx_planner.specs.Planned.{PutsFront}
use Rattle.gfx_schedule.specs.ServerEnd.{ScheduledEnd, serves, serving, can_serve, has_served}
use Rattle.gfx_schedule.specs.declared.turned.Turned.{Turned}
use Rattle.gfx_schedule.specs.declared.turned.Turned.TheVariants.{Moved, Waiting, Ended}
use Rattle.gfx_window.specs.Window.{with_pending}
use Rattle.gfx_session.specs.Kept.{GoesBy, ListensAs, Stands}
use Rattle.gfx_session.specs.declared.server_end.ServerEnd.{ServerEnd}

-- what is answered to a turn: first of all that nothing is left to do
abbrev pub turn_answer : ScheduledEnd → Turned
turn_answer at = if has_served at then Ended else (if can_serve at then Moved else Waiting)

-- this holds of whichever of the schedule's ends a server's end stands for, where the steps that are left go as these
-- choosers choose
abbrev pub WhereStands : ServerEnd → List Chooser → (ScheduledEnd → Type 0) → Type 0
WhereStands end choosers holds = (at : ScheduledEnd) → Stands end at → GoesBy end.script choosers at → holds at

-- a server's end hears its client as before, but for the steps that wait
abbrev pub ListensOn : ServerEnd → ServerEnd → Type 0
ListensOn old new = (at : ScheduledEnd) → ListensAs old at → ListensAs new (record at { window = with_pending at.window new.window.pending })

-- what a turn does. The choosers were asked of the steps that it queued, and of no others. Without memory the server's
-- end is spent, and hears its client as ever: a front of what was due is put out, and nothing where it was spent before
abbrev pub Serves : Result Turned NoMemory → ServerEnd → ServerEnd → List Chooser → List Chooser → List ℕ → List ℕ → Type 0
Serves (Ok turned) old new choosers left before now =
    (old.spent ≡ false) × (new.script ≡ old.script) × Asks old.script old.last new.last choosers left
    × WhereStands old choosers (λ at. Stands new (serves old.script at) × (now ≡ before ++ serving old.script at) × (turned ≡ turn_answer at))
    × (new.digests ≡ old.digests)
Serves (Err e) old new choosers left before now =
    (new.spent ≡ true) × (new.script ≡ old.script) × (old.spent ≡ true → now ≡ before)
    × WhereStands old choosers (λ at. PutsFront before now (serving old.script at))
    × ListensOn old new × (new.digests ≡ old.digests)
