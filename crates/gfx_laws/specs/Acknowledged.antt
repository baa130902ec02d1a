-- What a client shows at each frame that the server's end has seen acknowledged: this project's own promise, the main
-- theorem of README.
use Rattle.std.specs.Prelude.{◌≡◌, true, List, take}
use Rattle.gfx_bitmap_cache.specs.Slots.{Entry}
use Rattle.gfx_import.specs.Agreed.{agree}
use Rattle.gfx_schedule.specs.Feeding.{Event, Feeding, IsFeed, fed_from, start_of}
use Rattle.gfx_schedule.specs.Schedule.{IsShownFrom, KeepsWorldBy}
use Rattle.gfx_schedule.specs.Starts.{MayImport, MayStart, Start, from_kept, from_nothing}
use Rattle.gfx_schedule.specs.World.{Acknowledged, World, world, world_from}
use Rattle.gfx_script.specs.Kinds.{Fits, KindedStep}
use Rattle.gfx_script.specs.Script.{IsAccepted}
use Rattle.gfx_script.specs.Scripted.{Script}
use Rattle.gfx_script.specs.declared.turn.Turn.{Turn}
use Rattle.gfx_state.specs.Same.{Wider}
use Rattle.gfx_laws.specs.Seen.{ArePictures, MayGo, PixelsAreAsWritten}

-- an acknowledged frame: right after it the two ends were the same and showed what the steps up to its recorded one want,
-- and each pixel of the client's surfaces was as one of these steps wrote it
pub record IsSeen (start : Start) (script : Script) (kinded : List KindedStep) (ack : Acknowledged) : Type 0 where
  pub shown : IsShownFrom start script kinded ack
  pub pixels : PixelsAreAsWritten start script (take ack.step kinded) ack.client.shown.surfaces

-- a session refuses nothing, and each frame that is acknowledged in it is so
abbrev pub ShowsItsScript : Start → Script → List KindedStep → World → Type 0
ShowsItsScript start script kinded w = KeepsWorldBy (IsSeen start script kinded) start script w

-- so with each accepted script, whatever kinds its steps go as that they may go as, and after every list of turns
abbrev pub EverySessionShowsItsScript : Type 0
EverySessionShowsItsScript =
    (script : Script) (kinded : List KindedStep) (turns : List Turn) → IsAccepted script → Fits kinded script.steps
    → ShowsItsScript (from_nothing script) script kinded (world script kinded turns)

-- from each start that it may have, at which the client's state is the server's but for limits that may be wider
abbrev pub EveryStartShowsItsScript : Type 0
EveryStartShowsItsScript =
    (start : Start) (script : Script) (kinded : List KindedStep) (turns : List Turn) → MayGo start script kinded → Wider start.server.state start.client
    → ShowsItsScript start script kinded (world_from start script kinded turns)

-- so from bitmaps that both ends kept, where the two files agree
abbrev pub EveryImportShowsItsScript : Type 0
EveryImportShowsItsScript =
    (script : Script) (server client : List Entry) (kinded : List KindedStep) (turns : List Turn) → MayImport script server client → Fits kinded script.steps
    → agree server client ≡ true → ShowsItsScript (from_kept script server client) script kinded (world_from (from_kept script server client) script kinded turns)

-- and with each session that is fed, of the whole script so far
abbrev pub FedShowsItsScript : Start → Feeding → Type 0
FedShowsItsScript start fed = ShowsItsScript (start_of start fed.script) fed.script fed.kinded fed.world

abbrev pub EveryFeedShowsItsScript : Type 0
EveryFeedShowsItsScript =
    (start : Start) (head : Script) (events : List Event) → IsFeed start head events → MayStart head start → ArePictures start.wanted.shown.surfaces → Wider start.server.state start.client
    → FedShowsItsScript start (fed_from start head events)

-- one that starts from nothing
abbrev pub FedFromNothingShowsItsScript : Feeding → Type 0
FedFromNothingShowsItsScript fed = ShowsItsScript (from_nothing fed.script) fed.script fed.kinded fed.world

abbrev pub EveryFeedFromNothingShowsItsScript : Type 0
EveryFeedFromNothingShowsItsScript =
    (head : Script) (events : List Event) → IsFeed (from_nothing head) head events → FedFromNothingShowsItsScript (fed_from (from_nothing head) head events)

-- and one from kept bitmaps
abbrev pub FedFromKeptShowsItsScript : List Entry → List Entry → Feeding → Type 0
FedFromKeptShowsItsScript server client fed = ShowsItsScript (from_kept fed.script server client) fed.script fed.kinded fed.world

abbrev pub EveryFedImportShowsItsScript : Type 0
EveryFedImportShowsItsScript =
    (head : Script) (server client : List Entry) (events : List Event) → IsFeed (from_kept head server client) head events → MayImport head server client
    → agree server client ≡ true → FedFromKeptShowsItsScript server client (fed_from (from_kept head server client) head events)
