-- What a program concludes that holds a server's end and a client, and has the bytes in flight between them in two queues of its
-- own: from the clauses of their calls alone it stands for a world of the schedule, of which the promise of every schedule
-- speaks. This project's own rule.
use Rattle.std.specs.Prelude.{◌≡◌, ℕ, false, List, [], ◌∷◌, ◌++◌, drop, take, Ok}
use Rattle.gfx_bitmap_cache.specs.Slots.{Entry}
use Rattle.gfx_chooser.specs.Choosing.{Chooser}
use Rattle.gfx_chooser.specs.Kinded.{kinded_steps}
use Rattle.gfx_client.specs.Replies.{replies}
use Rattle.gfx_client.specs.Standing.{HasBroughtFrom, IsDrained, StandsFrom}
use Rattle.gfx_client.specs.declared.client.Client.{Client}
use Rattle.gfx_planner.specs.Holds.{Holds}
use Rattle.gfx_planner.specs.Server.{server_with}
use Rattle.gfx_schedule.specs.ServerEnd.{server_end_from}
use Rattle.gfx_schedule.specs.Starts.{MayBegin, Start, from_nothing}
use Rattle.gfx_schedule.specs.World.{World, drained, greeting, world_from}
use Rattle.gfx_schedule.specs.declared.turned.Turned.{Turned}
use Rattle.gfx_script.specs.Kinds.{Fits, KindedStep}
use Rattle.gfx_script.specs.Script.{IsAccepted, IsAcceptedAtStart, held_at_start}
use Rattle.gfx_script.specs.Scripted.{Script}
use Rattle.gfx_script.specs.Starting.{starts_of}
use Rattle.gfx_script.specs.declared.turn.Turn.{Turn}
use Rattle.gfx_script.specs.declared.turn.Turn.TheVariants.{Server, Client as ToClient, Answer}
use Rattle.gfx_session.specs.Kept.{GoesBy, Stands}
use Rattle.gfx_session.specs.Serving.{Serves}
use Rattle.gfx_session.specs.Taking.{Takes}
use Rattle.gfx_session.specs.declared.server_end.ServerEnd.{ServerEnd}
use Rattle.gfx_state.specs.History.{Effect, history_from}
use Rattle.gfx_state.specs.State.{State}

-- before the first turn ------------------------------------------------------------------------------------------------

-- a session of an accepted script may begin with nothing, whatever kinds its steps go as that they may go as
abbrev pub AcceptedMayBegin : Type 0
AcceptedMayBegin = (script : Script) (kinded : List KindedStep) → IsAccepted script → Fits kinded script.steps → MayBegin (from_nothing script) script kinded

-- the steps of any script may go as choosers choose
abbrev pub ChosenKindsFit : Type 0
ChosenKindsFit = (script : Script) (choosers : List Chooser) → Fits (kinded_steps script choosers) script.steps

-- what a server's end has that begins with these bitmaps, in slots 1, 2 and so on, is in step with the checks of a script that
-- starts with them: so a planner with them may put its first step
abbrev pub KeptHoldsAtStart : Type 0
KeptHoldsAtStart =
    (script : Script) (entries : List Entry) → IsAcceptedAtStart script → script.start ≡ starts_of entries
    → Holds script (held_at_start script) (server_with entries script.small)

-- rounds are turns -----------------------------------------------------------------------------------------------------

-- this world is that of the session behind some more turns
pub record ComesLater (start : Start) (script : Script) (kinded : List KindedStep) (turns : List Turn) (w : World) : Type 0 where
  pub more : List Turn
  pub is : w ≡ world_from start script kinded (turns ++ more)

-- so is the world that is drained
abbrev pub DrainingIsTurns : Type 0
DrainingIsTurns =
    (start : Start) (script : Script) (kinded : List KindedStep) (turns : List Turn) (most : ℕ)
    → ComesLater start script kinded turns (drained script most (world_from start script kinded turns))

-- two ends that are joined ---------------------------------------------------------------------------------------------

-- a server's end and a client, with these bytes in flight to the client and to the server, stand for a world in which the steps
-- that aren't queued yet go as these choosers choose
pub record Joins (end : ServerEnd) (client : Client) (down up : List ℕ) (choosers : List Chooser) (w : World) : Type 0 where
  pub server : Stands end w.server
  pub draws : StandsFrom w.start client w.taken
  pub drained : IsDrained client
  pub to_client : down ≡ w.down
  pub to_server : up ≡ w.up
  pub goes_by : GoesBy end.script choosers w.server

-- the two of a script behind some turns of its session
abbrev pub JoinsAfter : Start → ServerEnd → Client → List ℕ → List ℕ → List Chooser → List KindedStep → List Turn → Type 0
JoinsAfter start end client down up choosers kinded turns = Joins end client down up choosers (world_from start end.script kinded turns)

-- before the first turn: where no version is confirmed, what the client says first is in flight
abbrev pub JoinedBegin : Type 0
JoinedBegin =
    (start : Start) (end : ServerEnd) (client : Client) (choosers : List Chooser)
    → Stands end (server_end_from start end.script (kinded_steps end.script choosers)) → StandsFrom start.client client [] → IsDrained client
    → JoinsAfter start end client [] (greeting start.confirmed end.script) choosers (kinded_steps end.script choosers) []

-- the server's end has served: it put its bytes behind those in flight
abbrev pub JoinedServe : Type 0
JoinedServe =
    (start : Start) (old new : ServerEnd) (client : Client) (choosers left : List Chooser) (down now up : List ℕ) (kinded : List KindedStep) (turns : List Turn) (turned : Turned)
    → MayBegin start old.script kinded → JoinsAfter start old client down up choosers kinded turns → Serves (Ok turned) old new choosers left down now
    → JoinsAfter start new client now up left kinded (turns ++ Server ∷ [])

-- the client has taken so many of the bytes in flight, and drawn all messages that are whole then: what it replied to them is
-- put behind those in flight to the server
abbrev pub JoinedDraw : Type 0
JoinedDraw =
    (start : Start) (end : ServerEnd) (old new : Client) (choosers : List Chooser) (down up : List ℕ) (kinded : List KindedStep) (turns : List Turn) (most : ℕ) (more : List Effect)
    → JoinsAfter start end old down up choosers kinded turns
    → ((origin : State) (taken : List ℕ) → StandsFrom origin old taken → StandsFrom origin new (taken ++ take most down))
    → ((origin : State) (taken : List ℕ) → HasBroughtFrom origin old taken (history_from origin taken) → HasBroughtFrom origin new (taken ++ take most down) (history_from origin taken ++ more))
    → IsDrained new
    → JoinsAfter start end new (drop most down) (up ++ replies more) choosers kinded (turns ++ ToClient most ∷ [])

-- the server's end has taken so many of the bytes in flight to it, and put what it answers behind those in flight to the client
abbrev pub JoinedHear : Type 0
JoinedHear =
    (start : Start) (old new : ServerEnd) (client : Client) (choosers : List Chooser) (down now up : List ℕ) (kinded : List KindedStep) (turns : List Turn) (most count : ℕ)
    → JoinsAfter start old client down up choosers kinded turns → Takes false (Ok count) old new down now (take most up)
    → JoinsAfter start new client now (drop most up) choosers kinded (turns ++ Answer most ∷ [])
