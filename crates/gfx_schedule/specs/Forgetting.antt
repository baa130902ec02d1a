-- What the script of a live server forgets once nothing of it waits, and why no one notices: this project's own rule.
use Rattle.std.specs.Prelude.{◌≡◌, ◌≤◌, ◌<◌, ℕ, List, [], length}
use Rattle.std.specs.List.{AllByRecursion, slice_get}
use Rattle.gfx_script.specs.Checks.{Held}
use Rattle.gfx_script.specs.Forgetting.{forgotten, sides_forgotten}
use Rattle.gfx_script.specs.Kinds.{KindedStep}
use Rattle.gfx_script.specs.Scripted.{Script}
use Rattle.gfx_script.specs.declared.picture.Picture.{Picture}
use Rattle.gfx_script.specs.declared.step.Step.{Step}
use Rattle.gfx_script.specs.declared.step.Step.TheVariants.{Paint}
use Rattle.gfx_schedule.specs.Feeding.{with_more}
use Rattle.gfx_schedule.specs.Hearing.{Heard, hears}
use Rattle.gfx_schedule.specs.Plan.{InPlanFrom}
use Rattle.gfx_schedule.specs.ServerEnd.{ScheduledEnd, serves, serving}
use Rattle.gfx_schedule.specs.Starts.{MayBegin, Start}

-- a paint's picture is the same in both lists
abbrev pub Sees : List Picture → List Picture → Step → Type 0
Sees some others (Paint id picture at named glyph) = slice_get others picture ≡ slice_get some picture
Sees some others step = Unit {0}

-- it isn't noticed -----------------------------------------------------------------------------------------------

-- what waits in a server's end, and what it will queue, are steps behind the first so many
pub record IsBehind (over : ℕ) (end : ScheduledEnd) : Type 0 where
  pub items : AllByRecursion (λ item. over < item.step) end.window.pending
  pub last : over ≤ end.last

-- it stays so: when the server's end takes a turn, when it hears its client, and when more steps are left
pub record KeepsBehind (over : ℕ) : Type 0 where
  pub serves : (script : Script) (end : ScheduledEnd) → IsBehind over end → IsBehind over (serves script end)
  pub hears : (script : Script) (heard : Heard) (bytes : List ℕ) → IsBehind over heard.end → IsBehind over (hears script heard bytes).end
  pub grows : (end : ScheduledEnd) (more : List KindedStep) → IsBehind over end → IsBehind over (with_more end more)

-- of however many steps
abbrev pub StaysBehind : Type 0
StaysBehind = (over : ℕ) → KeepsBehind over

-- a server's end takes the same turn with both scripts, puts out the same bytes, and hears the same
pub record ServesAlike (whole own : Script) (end : ScheduledEnd) : Type 0 where
  pub serves : serves own end ≡ serves whole end
  pub serving : serving own end ≡ serving whole end
  pub hears : (heard : Heard) (bytes : List ℕ) → hears own heard bytes ≡ hears whole heard bytes

-- a session of what is left ------------------------------------------------------------------------------------------

-- a session of a script may have begun with its first step checked against this, as that of a server's end with which
-- nothing waits
pub record BeganSo (held : Held) (script : Script) (end : ScheduledEnd) : Type 0 where
  pub origin : Start
  pub checks : origin.held ≡ held
  pub kinded : List KindedStep
  pub begins : MayBegin origin script kinded
  pub gone : List KindedStep
  pub plan : InPlanFrom origin script kinded end gone []

-- where nothing waits and nothing is left, all may be forgotten: a session of the forgotten script may have begun there, with
-- what all steps have left but for the sides of pictures
abbrev pub ForgettingIsPlanned : Type 0
ForgettingIsPlanned =
    (start : Start) (script : Script) (kinded : List KindedStep) (end : ScheduledEnd) (gone : List KindedStep) (begins : MayBegin start script kinded)
    → InPlanFrom start script kinded end gone [] → end.left ≡ []
    → BeganSo (sides_forgotten (length script.pictures) begins.accepted.held) (forgotten script) end
