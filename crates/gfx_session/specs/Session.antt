-- For which world of the schedule a session stands, and what its turns do: what happens in that world.
use Rattle.std.specs.Prelude.{◌≡◌, true, false, List, [], ◌∷◌, ◌++◌, length, map, Result, Ok, Err}
use Rattle.gfx_base.specs.declared.answer.NoMemory.{NoMemory}
use Rattle.gfx_chooser.specs.Choosing.{Chooser}
use Rattle.gfx_chooser.specs.Kinded.{Asks}
use Rattle.gfx_client.specs.Client.{offers_of}
use Rattle.gfx_client.specs.Standing.{StandsFrom, HasBroughtFrom, IsDrained}
use Rattle.gfx_schedule.specs.Schedule.{rounds_for}
use Rattle.gfx_schedule.specs.Starts.{MayBegin, Start}
use Rattle.gfx_schedule.specs.World.{World, Acknowledged, world_from, answer, is_ended, drained}
use Rattle.gfx_schedule.specs.declared.turned.Turned.{Turned}
use Rattle.gfx_script.specs.Kinds.{KindedStep}
use Rattle.gfx_script.specs.Scripted.{Script}
use Rattle.gfx_script.specs.declared.turn.Turn.{Turn}
use Rattle.gfx_session.specs.Kept.{noted, GoesBy, IsServerEnd}
use Rattle.gfx_session.specs.Kept as kept
use Rattle.gfx_session.specs.declared.acked.Acked.{Acked}
use Rattle.gfx_session.specs.declared.digests.Digests.{Digests}
use Rattle.gfx_session.specs.declared.session.Session.{Session}
use Rattle.gfx_state.specs.History.{history_from}

-- an acknowledgement as it is kept
abbrev pub acked_of : Digests → Acknowledged → Acked
acked_of digests ack = record { frame = ack.frame; step = ack.step; client = noted digests ack.client; server = noted digests ack.server }

-- the script of a session
abbrev pub script_of : Session → Script
script_of session = session.server.script

-- whether its digests are on
abbrev pub digests_of : Session → Digests
digests_of session = session.server.digests

-- a session that isn't spent stands for one of the schedule's: its client offers what the script says, has taken exactly
-- the bytes that the other's client has, from the same start on, and has drawn all messages that are whole among them
pub record Stands (session : Session) (w : World) : Type 0 where
  pub fresh : session.spent ≡ false
  pub server : kept.Stands session.server w.server
  pub offers : offers_of session.client ≡ (script_of session).offers
  pub client : StandsFrom w.start session.client w.taken
  pub brought : HasBroughtFrom w.start session.client w.taken (history_from w.start w.taken)
  pub drained : IsDrained session.client
  pub down : session.down ≡ w.down
  pub up : session.up ≡ w.up
  pub drawn : session.drawn.items ≡ map (noted (digests_of session)) w.drawn
  pub acks : session.acks ≡ map (acked_of (digests_of session)) w.acks

-- a session stands for that of its script after some turns, which began so and whose steps go as some kinds
pub record IsUnderWay (session : Session) : Type 0 where
  pub origin : Start
  pub kinded : List KindedStep
  pub begins : MayBegin origin (script_of session) kinded
  pub turns : List Turn
  pub stands : Stands session (world_from origin (script_of session) kinded turns)

-- what holds of every session that is made, and stays through each of its calls, whatever choosers are brought to
-- it: while it isn't spent it is under way
pub record IsSession (session : Session) : Type 0 where
  pub server : IsServerEnd session.server
  pub under_way : session.spent ≡ false → IsUnderWay session

-- the choosers were asked of the steps that were queued between two states of a session, and of no others
abbrev pub AsksBetween : Session → Session → List Chooser → List Chooser → Type 0
AsksBetween old new choosers left = Asks (script_of old) old.server.last new.server.last choosers left

-- a session of a script stands for a world of the schedule, in which the steps that are left go as these choosers
-- choose
pub record StandsBy (session : Session) (choosers : List Chooser) (script : Script) (w : World) : Type 0 where
  pub stands : Stands session w
  pub goes_by : GoesBy script choosers w.server

-- this holds of each start, kinds and turns behind which a session stands for the world of its script, where the steps
-- that are left go as these choosers choose
abbrev pub AfterTurns : Session → List Chooser → (Start → List KindedStep → List Turn → Type 0) → Type 0
AfterTurns session choosers holds =
    (origin : Start) (kinded : List KindedStep) (turns : List Turn) → MayBegin origin (script_of session) kinded
    → StandsBy session choosers (script_of session) (world_from origin (script_of session) kinded turns) → holds origin kinded turns

-- what a turn does: the session stands for the world behind it. Without memory it is spent
abbrev pub Turns : Result Turned NoMemory → Session → Session → List Chooser → List Chooser → Turn → Type 0
Turns (Ok turned) old new choosers left turn =
    (old.spent ≡ false) × (script_of new ≡ script_of old) × AsksBetween old new choosers left
    × AfterTurns old choosers (λ origin kinded turns.
    StandsBy new left (script_of old) (world_from origin (script_of old) kinded (turns ++ turn ∷ [])) × (turned ≡ answer (world_from origin (script_of old) kinded turns) turn))
    × (digests_of new ≡ digests_of old)
Turns (Err e) old new choosers left turn = (new.spent ≡ true) × (script_of new ≡ script_of old)

-- what draining does: the session stands for the world that is drained, and all is ended. Without memory it is spent
abbrev pub Drains : Result (Unit {0}) NoMemory → Session → Session → List Chooser → List Chooser → Type 0
Drains (Ok done) old new choosers left =
    (old.spent ≡ false) × (script_of new ≡ script_of old) × AsksBetween old new choosers left
    × (new.server.last ≡ length (script_of old).steps)
    × AfterTurns old choosers (λ origin kinded turns.
    Stands new (drained (script_of old) (rounds_for (script_of old)) (world_from origin (script_of old) kinded turns))
    × (is_ended (drained (script_of old) (rounds_for (script_of old)) (world_from origin (script_of old) kinded turns)) ≡ true))
    × (digests_of new ≡ digests_of old)
Drains (Err e) old new choosers left = (new.spent ≡ true) × (script_of new ≡ script_of old)
