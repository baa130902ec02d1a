-- A session: its two ends and the bytes between them, and what each turn does. That bytes come in order,
-- whole and unchanged is how the two lists of bytes in flight are made ([MS-RDPEGFX] 2.1).
use Rattle.std.specs.Prelude.{ℕ, zero, suc, Bool, ◌&&◌, not, List, [], ◌∷◌, ◌++◌, length, take, drop, fold, if◌then◌else◌}
use Rattle.gfx_caps.specs.Offers.{advertised}
use Rattle.gfx_caps.specs.Spelling.{spelling}
use Rattle.gfx_client.specs.Replies.{replies}
use Rattle.gfx_script.specs.Kinds.{KindedStep}
use Rattle.gfx_script.specs.Scripted.{Script}
use Rattle.gfx_script.specs.declared.turn.Turn.{Turn}
use Rattle.gfx_script.specs.declared.turn.Turn.TheVariants.{Server, Client, Answer}
use Rattle.gfx_segment.specs.Framing.{prefixed}
use Rattle.gfx_state.specs.History.{history, ended}
use Rattle.gfx_state.specs.Run.{run_from}
use Rattle.gfx_state.specs.State.{State}
use Rattle.gfx_window.specs.declared.window.Sent.{Sent}
use Rattle.gfx_schedule.specs.declared.turned.Turned.{Turned}
use Rattle.gfx_schedule.specs.declared.turned.Turned.TheVariants.{Moved, Waiting, Ended}
use Rattle.gfx_schedule.specs.ServerEnd.{ScheduledEnd, server_end_from, serves, serving, can_serve, has_served, is_none}
use Rattle.gfx_schedule.specs.Hearing.{Heard, listening, hears}
use Rattle.gfx_schedule.specs.Starts.{Start, from_nothing}

-- an acknowledgement that the server's end has taken: the frame, its recorded step, the server's state
-- right after that frame was planned, and the client's right after it was drawn
pub record Acknowledged : Type 0 where
  pub frame : ℕ
  pub step : ℕ
  pub server : State
  pub client : State

-- frames with their states at both ends
abbrev pub acknowledgements : List Sent → List State → List State → List Acknowledged
acknowledgements (frame ∷ frames) (server ∷ servers) (client ∷ clients) =
    record { frame = frame.frame; step = frame.step; server = server; client = client } ∷ acknowledgements frames servers clients
acknowledgements frames servers clients = []

pub record World : Type 0 where
  -- the client's state before the first byte
  pub start : State
  pub server : ScheduledEnd
  -- the bytes in flight to the client, and to the server
  pub down : List ℕ
  pub up : List ℕ
  -- the bytes that the client has taken: it is at their run from its start
  pub taken : List ℕ
  -- the client's states right after the frames whose acknowledgements the server's end has not taken
  pub drawn : List State
  pub acks : List Acknowledged

-- what a client says first: which versions it offers, where none is confirmed yet
abbrev pub greeting : Bool → Script → List ℕ
greeting confirmed script = if confirmed then [] else prefixed (spelling (advertised script.offers))

-- the client has said that; nothing else has happened
abbrev pub begin_from : Start → Script → List KindedStep → World
begin_from start script kinded = record {
  start = start.client;
  server = server_end_from start script kinded;
  down = [];
  up = greeting start.confirmed script;
  taken = [];
  drawn = [];
  acks = [];
}

abbrev pub begin : Script → List KindedStep → World
begin script kinded = begin_from (from_nothing script) script kinded

-- the server's end queues and sends
unfoldable pub server_turns : Script → World → World
server_turns script world = record world { server = serves script world.server; down = world.down ++ serving script world.server }

-- the client takes these bytes, draws all messages that are whole then, and acknowledges each frame
unfoldable pub client_takes : World → List ℕ → List ℕ → World
client_takes world bytes behind = record world {
  down = behind;
  up = world.up ++ replies (history (run_from world.start world.taken) bytes);
  taken = world.taken ++ bytes;
  drawn = world.drawn ++ ended (run_from world.start world.taken) bytes;
}

-- the server's end takes what it has made of these bytes
unfoldable pub server_heard : World → Heard → List ℕ → World
server_heard world heard behind = record world {
  server = heard.end;
  down = world.down ++ heard.out;
  up = behind;
  drawn = drop (length heard.taken) world.drawn;
  acks = world.acks ++ acknowledgements heard.taken heard.states world.drawn;
}

-- what a turn does. One turn is done before the next begins
unfoldable pub happens : Script → World → Turn → World
happens script world Server = server_turns script world
happens script world (Client most) = client_takes world (take most world.down) (drop most world.down)
happens script world (Answer most) = server_heard world (hears script (listening world.server) (take most world.up)) (drop most world.up)

-- the session of a script from a start, whose steps go as these kinds, after these turns
abbrev pub world_from : Start → Script → List KindedStep → List Turn → World
world_from start script kinded turns = fold (happens script) (begin_from start script kinded) turns

-- the same from nothing
abbrev pub world : Script → List KindedStep → List Turn → World
world script kinded turns = world_from (from_nothing script) script kinded turns

-- what is said of a turn ---------------------------------------------------------------------------

-- all was queued, sent and acknowledged, and no byte is in flight
abbrev pub is_ended : World → Bool
is_ended world = has_served world.server && (is_none world.down && is_none world.up)

-- the turn has something to do
abbrev pub can_turn : World → Turn → Bool
can_turn world Server = can_serve world.server
can_turn world (Client most) = not (is_none world.down)
can_turn world (Answer most) = not (is_none world.up)

unfoldable pub answer : World → Turn → Turned
answer world turn = if is_ended world then Ended else (if can_turn world turn then Moved else Waiting)

-- a round: the server's end has a turn, the client takes all bytes, and the server's end takes all bytes
unfoldable pub round : Script → World → World
round script world =
    let sent = happens script world Server in
    let drawn = happens script sent (Client (length sent.down)) in
    happens script drawn (Answer (length drawn.up))

-- after so many rounds
abbrev pub rounds : Script → ℕ → World → World
rounds script zero world = world
rounds script (suc count) world = rounds script count (round script world)

-- after as many rounds as it takes until the session is ended, of at most so many
abbrev pub drained : Script → ℕ → World → World
drained script zero world = world
drained script (suc most) world = if is_ended world then world else drained script most (round script world)
