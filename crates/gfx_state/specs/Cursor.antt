-- A client inside a stream, one message after another.
use Rattle.std.specs.Prelude.{◌≡◌, ℕ, List, [], ◌∷◌, drop, Option, Some, None, Result, Ok, Err}
use Rattle.gfx_base.specs.Memory.{next_count}
use Rattle.gfx_base.specs.declared.refusal.Refusal.{Refusal}
use Rattle.gfx_pdu.specs.declared.pdu.Pdu.{Pdu}
use Rattle.gfx_pdu.specs.Reading.{message_at}
use Rattle.gfx_segment.specs.Framing.{Splitter, holding, fed, next, after_next, payload}
use Rattle.gfx_state.specs.State.{State, fresh}
use Rattle.gfx_state.specs.Step.{step}
use Rattle.gfx_state.specs.Payload.{messages_of}
use Rattle.gfx_state.specs.Run.{Run, eats, deliver, close}

-- the bytes that are not used yet, what is left of the present payload, and what was applied
pub record Cursor : Type 0 where
  pub splitter : Splitter
  pub left : List ℕ
  pub state : State
  pub applied : ℕ

-- nothing was given yet
abbrev pub before_all : Cursor
before_all = record { splitter = holding []; left = []; state = fresh; applied = 0 }

-- more bytes are given
abbrev pub given : Cursor → List ℕ → Cursor
given cursor piece = record cursor { splitter = fed cursor.splitter piece }

-- what comes next: a channel message is opened, a message is applied, more bytes are needed, or
-- there is a refusal
pub data Move : Type 0 where
  Opens : Cursor → Move
  Takes : Pdu → Cursor → Move
  Needs : Move
  Refuses : Refusal → Move

-- the payload is at its end: the next channel message
unfoldable pub next_payload : Cursor → Result (Option (List ℕ)) Refusal → Move
next_payload cursor (Ok (Some payload_bytes)) =
    Opens (record cursor { splitter = after_next payload cursor.splitter; left = payload_bytes })
next_payload cursor (Ok None) = Needs
next_payload cursor (Err r) = Refuses r

-- a message was read: its effect, and the bytes behind it
unfoldable pub next_state : Cursor → Pdu → ℕ → Result State Refusal → Move
next_state cursor pdu size (Ok state) =
    Takes pdu (record cursor { left = drop size cursor.left; state = state; applied = next_count cursor.applied })
next_state cursor pdu size (Err r) = Refuses r

unfoldable pub next_message : Cursor → Result (Option (Pdu × ℕ)) Refusal → Move
next_message cursor (Ok (Some message)) = next_state cursor message.0 message.1 (step cursor.state message.0)
next_message cursor (Ok None) = next_payload cursor (next payload cursor.splitter)
next_message cursor (Err r) = Refuses r

unfoldable pub what_next : Cursor → Move
what_next cursor = next_message cursor (message_at cursor.left)

-- from one cursor to another, by these messages and no others
pub data Reaches : Cursor → List Pdu → Cursor → Type 0 where
  Here : (at : Cursor) → Reaches at [] at
  Opening : (from via to : Cursor) (pdus : List Pdu) → what_next from ≡ Opens via → Reaches via pdus to → Reaches from pdus to
  Taking : (from via to : Cursor) (pdu : Pdu) (pdus : List Pdu) → what_next from ≡ Takes pdu via → Reaches via pdus to → Reaches from (pdu ∷ pdus) to

-- the run of the bytes that a splitter holds
unfoldable pub after_held : Run → Option Refusal → List ℕ → Run
after_held run None bytes = eats run bytes
after_held run (Some r) bytes = close run (Some r)

-- the run up to the cursor, between two messages
abbrev pub run_at : Cursor → Run
run_at cursor = record { state = cursor.state; applied = cursor.applied; rest = []; refusal = None }

-- the run at a cursor that needs more bytes
abbrev pub waiting : Cursor → Run
waiting cursor = record { state = cursor.state; applied = cursor.applied; rest = cursor.splitter.rest; refusal = None }

-- the run that the cursor will come to with no more bytes
unfoldable pub settled : Cursor → Run
settled cursor = after_held (deliver (run_at cursor) (messages_of cursor.left)) cursor.splitter.refusal cursor.splitter.rest
