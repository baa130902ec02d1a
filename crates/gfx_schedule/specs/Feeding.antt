-- A session that is fed: its script grows while the session goes on. What such a session is, and what holds of it: this
-- project's own rule.
use Rattle.std.specs.Prelude.{◌≡◌, ◌&&◌, Bool, true, false, List, [], ◌∷◌, ◌++◌, map, fold}
use Rattle.std.specs.List.{list_any}
use Rattle.gfx_bitmap_cache.specs.Slots.{Entry}
use Rattle.gfx_import.specs.Agreed.{agree}
use Rattle.gfx_script.specs.Checks.{sides_of_all}
use Rattle.gfx_script.specs.Kinds.{KindedStep, Fits}
use Rattle.gfx_script.specs.Script.{IsAcceptedFrom, is_frame}
use Rattle.gfx_script.specs.Scripted.{Script}
use Rattle.gfx_script.specs.declared.picture.Picture.{Picture}
use Rattle.gfx_script.specs.declared.turn.Turn.{Turn}
use Rattle.gfx_script.specs.declared.turn.Turn.TheVariants.{Server, Client, Answer}
use Rattle.gfx_state.specs.Alike.{Alike}
use Rattle.gfx_state.specs.Same.{Wider}
use Rattle.gfx_window.specs.Window.{has_room}
use Rattle.gfx_schedule.specs.Schedule.{KeepsWorld, KeepsWorldFrom, KeepsAlikeFrom}
use Rattle.gfx_schedule.specs.ServerEnd.{ScheduledEnd, can_serve, is_none}
use Rattle.gfx_schedule.specs.Starts.{MayImport, MayStart, Start, from_kept, from_nothing}
use Rattle.gfx_schedule.specs.World.{World, begin_from, happens, world_from}

-- a script with more pictures and more steps behind its own
abbrev pub grown : Script → List Picture → List KindedStep → Script
grown script pictures more = record script {
  pictures = script.pictures ++ pictures;
  steps = script.steps ++ map (λ one. one.step) more;
}

-- the same server's end, with more steps behind those that are left
abbrev pub with_more : ScheduledEnd → List KindedStep → ScheduledEnd
with_more end more = record end { left = end.left ++ more }

-- the same world, with more steps left
abbrev pub world_with_more : World → List KindedStep → World
world_with_more w more = record w { server = with_more w.server more }

-- what happens while a session goes on
pub data Event : Type 0 where
  -- its script grows by these pictures, and by these steps, which go as these kinds
  Grows : List Picture → List KindedStep → Event
  -- an end takes a turn
  Takes : Turn → Event

-- a session that is fed, so far
pub record Feeding : Type 0 where
  -- all of the script that is there yet, and the kinds that its steps go as
  pub script : Script
  pub kinded : List KindedStep
  pub world : World

-- it goes on by an event
unfoldable pub goes_on : Feeding → Event → Feeding
goes_on fed (Grows pictures more) = record {
  script = grown fed.script pictures more;
  kinded = fed.kinded ++ more;
  world = world_with_more fed.world more;
}
goes_on fed (Takes turn) = record fed { world = happens fed.script fed.world turn }

-- before the first event: nothing of the script is there yet but its head
abbrev pub fed_at_start : Start → Script → Feeding
fed_at_start start head = record { script = head; kinded = []; world = begin_from start head [] }

-- a session that is fed, from a start and the head of a script, after these events
abbrev pub fed_from : Start → Script → List Event → Feeding
fed_from start head events = fold goes_on (fed_at_start start head) events

-- the same start, where the pictures that the first step is checked against are those of this script
abbrev pub start_of : Start → Script → Start
start_of start script = record start { held = record start.held { pictures = sides_of_all script.pictures } }

-- the script so far is accepted, so that it ends with a frame, and its steps go as kinds that they may go as
pub record IsGood (start : Start) (fed : Feeding) : Type 0 where
  pub accepted : IsAcceptedFrom (start_of start fed.script).held fed.script
  pub fits : Fits fed.kinded fed.script.steps

-- it is so now, and after each of these events
abbrev pub StaysGood : Start → Feeding → List Event → Type 0
StaysGood start fed [] = IsGood start fed
StaysGood start fed (event ∷ events) = IsGood start fed × StaysGood start (goes_on fed event) events

-- events that feed a session: its script has no step at first, and is good then and after each of them
pub record IsFeed (start : Start) (head : Script) (events : List Event) : Type 0 where
  pub no_step : head.steps ≡ []
  pub good : StaysGood start (fed_at_start start head) events

-- what comes later isn't seen -----------------------------------------------------------------------

-- a whole script frame is among these steps
abbrev pub has_frame : List KindedStep → Bool
has_frame steps = list_any (λ one. is_frame one.step) steps

-- where the server's end takes this turn, a whole script frame is left
abbrev pub FindsFrame : World → Turn → Type 0
FindsFrame w Server = has_frame w.server.left ≡ true
FindsFrame w (Client most) = Unit {0}
FindsFrame w (Answer most) = Unit {0}

-- so at each of these turns
abbrev pub FindFrames : Script → World → List Turn → Type 0
FindFrames script w [] = Unit {0}
FindFrames script w (turn ∷ turns) = FindsFrame w turn × FindFrames script (happens script w turn) turns

-- such turns do the same in a longer script
abbrev pub LaterStepsAreNotSeen : Type 0
LaterStepsAreNotSeen =
    (start : Start) (script : Script) (kinded : List KindedStep) (pictures : List Picture) (more : List KindedStep) (turns : List Turn)
    → IsAcceptedFrom start.held script → Fits kinded script.steps → start.held.pictures ≡ sides_of_all script.pictures
    → FindFrames script (begin_from start script kinded) turns
    → world_from start (grown script pictures more) (kinded ++ more) turns ≡ world_with_more (world_from start script kinded turns) more

-- the session of the whole script -------------------------------------------------------------------

-- the world of a session that is fed is that of the session of the whole script so far, after some turns
pub record IsScripted (start : Start) (fed : Feeding) : Type 0 where
  pub turns : List Turn
  pub is : fed.world ≡ world_from start fed.script fed.kinded turns

-- so after all events that feed it
abbrev pub FeedingIsScripting : Type 0
FeedingIsScripting = (start : Start) (head : Script) (events : List Event) → IsFeed start head events → IsScripted start (fed_from start head events)

-- the promise of every schedule, of the whole script so far
abbrev pub KeepsFed : Start → Feeding → Type 0
KeepsFed start fed = KeepsWorldFrom (start_of start fed.script) fed.script fed.kinded fed.world

-- the same where the two ends are alike
abbrev pub KeepsFedAlike : Start → Feeding → Type 0
KeepsFedAlike start fed = KeepsAlikeFrom (start_of start fed.script) fed.script fed.kinded fed.world

-- the first is kept from each start that the head may have, at which the client's state is the server's but for limits that
-- may be wider
abbrev pub EveryFeed : Type 0
EveryFeed =
    (start : Start) (head : Script) (events : List Event) → IsFeed start head events → MayStart head start → Wider start.server.state start.client
    → KeepsFed start (fed_from start head events)

-- the second from each at which the two ends are alike
abbrev pub EveryFeedAlike : Type 0
EveryFeedAlike =
    (start : Start) (head : Script) (events : List Event) → IsFeed start head events → MayStart head start → Alike start.server.state start.client
    → KeepsFedAlike start (fed_from start head events)

-- of a session that starts from nothing the promise is that of every such session, word for word
abbrev pub KeepsFedFromNothing : Feeding → Type 0
KeepsFedFromNothing fed = KeepsWorld fed.script fed.kinded fed.world

-- it is kept
abbrev pub EveryFeedFromNothing : Type 0
EveryFeedFromNothing =
    (head : Script) (events : List Event) → IsFeed (from_nothing head) head events
    → KeepsFedFromNothing (fed_from (from_nothing head) head events)

-- and of one that starts from kept bitmaps it is that of every import
pub record KeepsFedImport (server client : List Entry) (fed : Feeding) : Type 0 where
  pub alike : KeepsAlikeFrom (from_kept fed.script server client) fed.script fed.kinded fed.world
  pub agreed : agree server client ≡ true → KeepsWorldFrom (from_kept fed.script server client) fed.script fed.kinded fed.world

-- it is kept too
abbrev pub EveryFedImport : Type 0
EveryFedImport =
    (head : Script) (server client : List Entry) (events : List Event) → IsFeed (from_kept head server client) head events → MayImport head server client
    → KeepsFedImport server client (fed_from (from_kept head server client) head events)

-- waiting -------------------------------------------------------------------------------------------

-- a server's end with nothing to do waits for its client alone: where steps wait then, no version is confirmed, or the
-- window is full
abbrev pub WaitingWaitsForTheClient : Type 0
WaitingWaitsForTheClient =
    (end : ScheduledEnd) → can_serve end ≡ false → is_none end.window.pending ≡ false → (end.confirmed && has_room end.window) ≡ false
