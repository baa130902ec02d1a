-- What more pictures and steps of a script have to be while its session goes on, and what stays in step with the script then:
-- this project's own rule.
use Rattle.std.specs.Prelude.{◌≡◌, ◌≤◌, IsTrue, List, [], ◌∷◌, ◌++◌, length, map, Ok}
use Rattle.std.specs.List.{AllByRecursion}
use Rattle.gfx_script.specs.Checks.{Held, held_through, sides_of_all}
use Rattle.gfx_script.specs.Kinds.{KindedStep, HasKind}
use Rattle.gfx_script.specs.Pictures.{IsDrawn}
use Rattle.gfx_script.specs.Script.{IsAcceptedFrom, IsStep, is_framed}
use Rattle.gfx_script.specs.Scripted.{Script}
use Rattle.gfx_script.specs.declared.TheConstants.{MOST_STEPS}
use Rattle.gfx_script.specs.declared.picture.Picture.{Picture}
use Rattle.gfx_schedule.specs.Feeding.{Event, Feeding, Grows, IsFeed, IsGood, Takes, fed_at_start, goes_on, grown, start_of, with_more}
use Rattle.gfx_schedule.specs.Plan.{InPlanFrom}
use Rattle.gfx_schedule.specs.ServerEnd.{ScheduledEnd}
use Rattle.gfx_schedule.specs.Starts.{MayBegin, Start}

-- a script whose steps have left what is held may grow by these pictures and steps: the checks of each new step hold on what
-- the steps before it leave, and the last new step, if there is one, is a frame
pub record MayGrow (held : Held) (script : Script) (pictures : List Picture) (more : List KindedStep) : Type 0 where
  pub few_pictures : length (script.pictures ++ pictures) ≤ MOST_STEPS
  pub drawn : AllByRecursion IsDrawn pictures
  pub few : length (script.steps ++ map (λ one. one.step) more) ≤ MOST_STEPS
  pub numbers : AllByRecursion IsStep (map (λ one. one.step) more)
  pub kinds : AllByRecursion HasKind more
  pub after : Held
  pub checked : held_through (record held { pictures = held.pictures ++ sides_of_all pictures }) (map (λ one. one.step) more) ≡ Ok after
  pub framed : IsTrue (is_framed (map (λ one. one.step) more))

-- so what is good stays good by checks of what is new alone
abbrev pub GrowthIsGood : Type 0
GrowthIsGood =
    (start : Start) (fed : Feeding) (good : IsGood start fed) (pictures : List Picture) (more : List KindedStep)
    → MayGrow good.accepted.held fed.script pictures more
    → IsGood start (goes_on fed (Grows pictures more))

-- each growth among these events passes the checks where the one before it left them; turns are taken as they come
abbrev pub AreChecked : Held → Feeding → List Event → Type 0
AreChecked held fed [] = Unit {0}
AreChecked held fed (Grows pictures more ∷ events) =
    (may : MayGrow held fed.script pictures more) × AreChecked may.after (goes_on fed (Grows pictures more)) events
AreChecked held fed (Takes turn ∷ events) = AreChecked held (goes_on fed (Takes turn)) events

-- such events feed a session, behind the head of an accepted script
abbrev pub ChecksMakeFeeds : Type 0
ChecksMakeFeeds =
    (start : Start) (head : Script) (events : List Event) (accepted : IsAcceptedFrom (start_of start head).held head)
    → head.steps ≡ [] → AreChecked accepted.held (fed_at_start start head) events → IsFeed start head events

-- a server's end that is in step with its script is, with more steps left, in step with the longer one
abbrev pub GrowthIsPlanned : Type 0
GrowthIsPlanned =
    (start : Start) (script : Script) (kinded : List KindedStep) (end : ScheduledEnd) (gone waiting : List KindedStep)
    (pictures : List Picture) (more : List KindedStep)
    → AllByRecursion IsDrawn pictures → InPlanFrom (start_of start script) script kinded end gone waiting
    → InPlanFrom (start_of start (grown script pictures more)) (grown script pictures more) (kinded ++ more) (with_more end more) gone waiting

-- a session may have begun so, and its server's end is in step with its script
pub record BeganInStep (origin : Start) (script : Script) (kinded : List KindedStep) (end : ScheduledEnd) (gone waiting : List KindedStep) : Type 0 where
  pub begins : MayBegin origin script kinded
  pub plan : InPlanFrom origin script kinded end gone waiting

-- it stays so when its script grows, wherever it began
abbrev pub GrowthStaysInStep : Type 0
GrowthStaysInStep =
    (origin : Start) (script : Script) (kinded : List KindedStep) (end : ScheduledEnd) (gone waiting : List KindedStep)
    (began : BeganInStep origin script kinded end gone waiting) (pictures : List Picture) (more : List KindedStep)
    → MayGrow began.begins.accepted.held script pictures more
    → BeganInStep (start_of origin (grown script pictures more)) (grown script pictures more) (kinded ++ more) (with_more end more) gone waiting
