-- What holds of every session, whatever turns its ends take and however their bytes are cut: this
-- project's own promise.
use Rattle.std.specs.Prelude.{◌≡◌, ◌≤◌, ℕ, List, ◌++◌, ◌+◌, true, length, map, take, None}
use Rattle.std.specs.List.{AllByRecursion}
use Rattle.gfx_bitmap_cache.specs.Slots.{Entry}
use Rattle.gfx_import.specs.Agreed.{agree}
use Rattle.gfx_planner.specs.Tiles.{HoldsLive}
use Rattle.gfx_planner.specs.Wanted.{Wanted}
use Rattle.gfx_planner.specs.Want.{want_from}
use Rattle.gfx_script.specs.Kinds.{KindedStep, Fits}
use Rattle.gfx_script.specs.Script.{IsAccepted, IsAcceptedFrom}
use Rattle.gfx_script.specs.Scripted.{Script}
use Rattle.gfx_script.specs.declared.turn.Turn.{Turn}
use Rattle.gfx_state.specs.Alike.{Alike}
use Rattle.gfx_state.specs.History.{history_from}
use Rattle.gfx_state.specs.Run.{run_from}
use Rattle.gfx_state.specs.Same.{Same, Wider}
use Rattle.gfx_state.specs.State.{State}
use Rattle.gfx_schedule.specs.Frames.{frames_of}
use Rattle.gfx_schedule.specs.Rising.{AreRising}
use Rattle.gfx_schedule.specs.Starts.{MayStart, MayBegin, MayImport, Start, from_nothing, from_kept}
use Rattle.gfx_schedule.specs.World.{World, Acknowledged, world, world_from, is_ended, drained}

-- a state shows what is wanted: its surfaces, its output, what is mapped to it, and its slots; and it has the records of
-- the tiles that may be raised
pub record ShowsWanted (state : State) (wanted : Wanted) : Type 0 where
  pub shown : state.shown ≡ wanted.shown
  pub slots : state.cache.slots ≡ wanted.slots
  pub tiles : HoldsLive wanted.passes.live state.records

-- what is wanted at a step of a script
abbrev pub wanted_at : Start → Script → List KindedStep → ℕ → Wanted
wanted_at start script kinded step = want_from script start.wanted (take step kinded)

-- an acknowledged frame: the two ends were the same right after it, and both showed what the steps up to
-- its recorded one want, with those that were left out
pub record IsShownFrom (start : Start) (script : Script) (kinded : List KindedStep) (ack : Acknowledged) : Type 0 where
  pub same : Same ack.server ack.client
  pub server : ShowsWanted ack.server (wanted_at start script kinded ack.step)
  pub client : ShowsWanted ack.client (wanted_at start script kinded ack.step)

-- the same where the two ends were alike, and the server's showed what is wanted: the client's may have other pixels
pub record IsAlikeFrom (start : Start) (script : Script) (kinded : List KindedStep) (ack : Acknowledged) : Type 0 where
  pub alike : Alike ack.server ack.client
  pub server : ShowsWanted ack.server (wanted_at start script kinded ack.step)

-- what holds of a session from a start, where this is said of each acknowledged frame
pub record KeepsWorldBy (IsSeen : Acknowledged → Type 0) (start : Start) (script : Script) (w : World) : Type 0 where
  -- the client stands at the run of the bytes that it has taken, from its start
  pub started : w.start ≡ start.client
  -- neither end refuses anything
  pub client_goes_on : (run_from w.start w.taken).refusal ≡ None
  pub server_goes_on : w.server.stopped ≡ None
  -- the acknowledged frames are the first that the client has ended, in order, with its states right after them
  pub behind : List (ℕ × State)
  pub there : frames_of (history_from w.start w.taken) ≡ map (λ ack. (ack.frame, ack.client)) w.acks ++ behind
  -- at each the two ends are so
  pub shown : AllByRecursion IsSeen w.acks
  -- the window is kept
  pub window : length w.server.window.flying ≤ script.window
  pub rising : AreRising 0 (map (λ ack. ack.step) w.acks)

-- the two ends agree at each frame, and show the script; or they are alike
abbrev pub KeepsWorldFrom : Start → Script → List KindedStep → World → Type 0
KeepsWorldFrom start script kinded w = KeepsWorldBy (IsShownFrom start script kinded) start script w

abbrev pub KeepsAlikeFrom : Start → Script → List KindedStep → World → Type 0
KeepsAlikeFrom start script kinded w = KeepsWorldBy (IsAlikeFrom start script kinded) start script w

-- so from each start that a script may have, at which the client's state is the server's but for limits that may be
-- wider; whatever kinds its steps go as that they may go as, and after every list of turns
abbrev pub EveryScheduleFrom : Type 0
EveryScheduleFrom =
    (start : Start) (script : Script) (kinded : List KindedStep) (turns : List Turn) → IsAcceptedFrom start.held script → Fits kinded script.steps
    → MayStart script start → Wider start.server.state start.client
    → KeepsWorldFrom start script kinded (world_from start script kinded turns)

-- they are alike from each start at which they are
abbrev pub EveryScheduleAlike : Type 0
EveryScheduleAlike =
    (start : Start) (script : Script) (kinded : List KindedStep) (turns : List Turn) → MayBegin start script kinded
    → KeepsAlikeFrom start script kinded (world_from start script kinded turns)

-- the same of a session that starts from kept bitmaps: whichever they are, neither end refuses anything, and the two are
-- alike at each frame; and where the two files agree, the two ends agree
pub record ImportHolds (script : Script) (server client : List Entry) (kinded : List KindedStep) (turns : List Turn) : Type 0 where
  pub alike : KeepsAlikeFrom (from_kept script server client) script kinded (world_from (from_kept script server client) script kinded turns)
  pub agreed : agree server client ≡ true
      → KeepsWorldFrom (from_kept script server client) script kinded (world_from (from_kept script server client) script kinded turns)

abbrev pub EveryImport : Type 0
EveryImport =
    (script : Script) (server client : List Entry) (kinded : List KindedStep) (turns : List Turn) → MayImport script server client → Fits kinded script.steps
    → ImportHolds script server client kinded turns

-- and a session may begin so
abbrev pub ImportMayBegin : Type 0
ImportMayBegin =
    (script : Script) (server client : List Entry) (kinded : List KindedStep) → MayImport script server client → Fits kinded script.steps
    → MayBegin (from_kept script server client) script kinded

-- the same of a session that starts from nothing
abbrev pub IsShown : Script → List KindedStep → Acknowledged → Type 0
IsShown script kinded ack = IsShownFrom (from_nothing script) script kinded ack

abbrev pub KeepsWorld : Script → List KindedStep → World → Type 0
KeepsWorld script kinded w = KeepsWorldFrom (from_nothing script) script kinded w

-- so for every accepted script
abbrev pub EverySchedule : Type 0
EverySchedule = (script : Script) (kinded : List KindedStep) (turns : List Turn) → IsAccepted script → Fits kinded script.steps
    → KeepsWorld script kinded (world script kinded turns)

-- so many rounds end the session of a script, whatever turns came before: the version is confirmed in the
-- first, and each of the others sends a frame with a frame of the script or more, or takes the last of them
abbrev pub rounds_for : Script → ℕ
rounds_for script = length script.steps + 4

-- after that many rounds it is ended, from each start
abbrev pub RoundsEnd : Type 0
RoundsEnd =
    (start : Start) (script : Script) (kinded : List KindedStep) (turns : List Turn) → MayBegin start script kinded
    → is_ended (drained script (rounds_for script) (world_from start script kinded turns)) ≡ true
