-- What the script of a live server forgets: the steps that were sent, and pixels of pictures whose paints wait where a later step
-- covers them; and why no one notices: this project's own rule.
use Rattle.std.specs.Prelude.{◌≡◌, ◌≤◌, ◌<◌, ℕ, List, [], ◌++◌, drop, length, map}
use Rattle.std.specs.List.{AllByRecursion, slice_get}
use Rattle.std.specs.Option.{IfSome, option_map}
use Rattle.gfx_script.specs.Drafts.{sides_of}
use Rattle.gfx_script.specs.Forgetting.{PaintsFrom, forgotten}
use Rattle.gfx_script.specs.Kinds.{KindedStep}
use Rattle.gfx_script.specs.Script.{step_at}
use Rattle.gfx_script.specs.Scripted.{Script}
use Rattle.gfx_script.specs.Sparing.{Marks, spared}
use Rattle.gfx_script.specs.declared.picture.Picture.{Picture}
use Rattle.gfx_script.specs.declared.step.Step.{Step}
use Rattle.gfx_script.specs.declared.step.Step.TheVariants.{Frame, Paint}
use Rattle.gfx_window.specs.Sparing.{items_marked, surely_sent}
use Rattle.gfx_window.specs.declared.window.Queued.{Queued}
use Rattle.gfx_schedule.specs.Feeding.{grown, with_more}
use Rattle.gfx_schedule.specs.Forgetting.{IsBehind, Sees, ServesAlike}
use Rattle.gfx_schedule.specs.Hearing.{Heard, hears}
use Rattle.gfx_schedule.specs.Leaving.{AreAmong, kept}
use Rattle.gfx_schedule.specs.Plan.{InPlanFrom}
use Rattle.gfx_schedule.specs.ServerEnd.{ScheduledEnd, serves}
use Rattle.gfx_schedule.specs.Starts.{MayBegin, Start}

-- the sides of a paint's picture are the same in both lists
abbrev pub HasSides : List Picture → List Picture → Step → Type 0
HasSides some others (Paint id picture at named glyph) = option_map sides_of (slice_get others picture) ≡ option_map sides_of (slice_get some picture)
HasSides some others step = Unit {0}

-- an item's paint has the same picture in both lists
abbrev pub SeesAt : Script → List Picture → Queued → Type 0
SeesAt script others item = IfSome (step_at script.steps item.step) (Sees script.pictures others)

-- what a server's end has of a whole script: it differs in the first steps alone, so many, and in pictures. Those that a later
-- step paints have the same sides; those that a step paints which is left, or which waits and isn't left out of a frame that
-- went now, are the same. It has as many of both
pub record Spares (over : ℕ) (whole own : Script) (end : ScheduledEnd) : Type 0 where
  pub others : own ≡ record whole { pictures = own.pictures; steps = own.steps }
  pub steps : drop over own.steps ≡ drop over whole.steps
  pub sides : AllByRecursion (HasSides whole.pictures own.pictures) (drop over whole.steps)
  pub waits : AllByRecursion (SeesAt whole own.pictures) (kept whole end.window.pending)
  pub left : AllByRecursion (Sees whole.pictures own.pictures) (drop end.last whole.steps)
  pub step_count : length own.steps ≡ length whole.steps
  pub picture_count : length own.pictures ≡ length whole.pictures

-- it isn't noticed -----------------------------------------------------------------------------------------------

-- a server's end serves and hears alike with both, where all that waits is behind those steps
abbrev pub SparedServesAlike : Type 0
SparedServesAlike = (over : ℕ) (whole own : Script) (end : ScheduledEnd) → Spares over whole own end → IsBehind over end → ServesAlike whole own end

-- an item that is left out stays so when more is queued: only items that are kept now, and new ones, can be kept then
abbrev pub LeftOutStaysSo : Type 0
LeftOutStaysSo = (script : Script) (items more : List Queued) → AreAmong (kept script (items ++ more)) (kept script items ++ more)

-- and so it is still that of the whole script when the server's end takes a turn, and when it hears its client
pub record StaysSpared (over : ℕ) (whole own : Script) : Type 0 where
  pub serves : (end : ScheduledEnd) → Spares over whole own end → Spares over whole own (serves whole end)
  pub hears : (heard : Heard) (bytes : List ℕ) → Spares over whole own heard.end → Spares over whole own (hears whole heard bytes).end

-- of any two scripts
abbrev pub SparedStaysSo : Type 0
SparedStaysSo = (over : ℕ) (whole own : Script) → StaysSpared over whole own

-- the script grows on ----------------------------------------------------------------------------------------------

-- a paint's picture is one of so many
abbrev pub PaintsWithin : ℕ → Step → Type 0
PaintsWithin count (Paint id picture at named glyph) = picture < count
PaintsWithin count step = Unit {0}

-- what waits in a server's end, and what it has queued, are steps of the script, and each later one than the first so many
-- paints a picture of it
pub record IsOf (over : ℕ) (script : Script) (end : ScheduledEnd) : Type 0 where
  pub items : AllByRecursion (λ item. item.step ≤ length script.steps) end.window.pending
  pub last : end.last ≤ length script.steps
  pub paints : AllByRecursion (PaintsWithin (length script.pictures)) (drop over script.steps)

-- both scripts may grow by the same pictures and steps, where the steps paint no picture that was there before
abbrev pub SparedGrows : Type 0
SparedGrows =
    (over : ℕ) (whole own : Script) (end : ScheduledEnd) (pictures : List Picture) (more : List KindedStep)
    → Spares over whole own end → IsBehind over end → IsOf over whole end → AllByRecursion (PaintsFrom (length whole.pictures)) (map (λ one. one.step) more)
    → Spares over (grown whole pictures more) (grown own pictures more) (with_more end more)

-- more is forgotten -------------------------------------------------------------------------------------------------

-- where nothing waits and nothing is left, all steps and pictures may be forgotten
abbrev pub AllIsForgotten : Type 0
AllIsForgotten =
    (over : ℕ) (whole own : Script) (end : ScheduledEnd) → Spares over whole own end → end.window.pending ≡ [] → length whole.steps ≤ end.last
    → Spares end.last whole (forgotten own) end

-- where nothing is left, pixels of all pictures may be forgotten but of those whose paints surely have to be sent, whatever is
-- marked beside them
abbrev pub WaitingIsSpared : Type 0
WaitingIsSpared =
    (over : ℕ) (whole own : Script) (end : ScheduledEnd) (older newest : List Queued) (marks : Marks)
    → Spares over whole own end → IsBehind over end → end.window.pending ≡ older ++ newest → length whole.steps ≤ end.last
    → Spares over whole (spared (items_marked own marks (surely_sent own older newest)) own) end

-- a server's end of a script is in step with it still when it has forgotten pixels of pictures, where each step that was sent or
-- left out is a frame
pub record StaysInPlan (start : Start) (script : Script) (kinded : List KindedStep) (end : ScheduledEnd) (gone waiting : List KindedStep) : Type 0 where
  pub begins : MayBegin start script kinded
  pub plan : InPlanFrom start script kinded end gone waiting

abbrev pub SparingIsPlanned : Type 0
SparingIsPlanned =
    (start : Start) (script : Script) (kinded : List KindedStep) (end : ScheduledEnd) (gone waiting : List KindedStep) (marks : Marks)
    → StaysInPlan start script kinded end gone waiting → AllByRecursion (λ one. one.step ≡ Frame) gone
    → StaysInPlan start (spared marks script) kinded end gone waiting
