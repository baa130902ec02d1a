-- The messages of a payload ([MS-RDPEGFX] 2.2.1: a payload holds whole messages, one after another).
use Rattle.std.specs.Prelude.{ℕ, zero, suc, List, [], ◌∷◌, length, drop, Option, Some, None, Result, Ok, Err}
use Rattle.gfx_base.specs.declared.refusal.Refusal.{Refusal}
use Rattle.gfx_pdu.specs.declared.pdu.Pdu.{Pdu}
use Rattle.gfx_pdu.specs.Reading.{message_at}

-- the messages up to the first that can't be read, each with its length on the wire (pduLength), and the
-- refusal of that one
pub record Messages : Type 0 where
  pub read : List (Pdu × ℕ)
  pub refusal : Option Refusal

-- no messages
abbrev pub none_left : Messages
none_left = record { read = []; refusal = None }

-- a message before others
abbrev pub before : Pdu × ℕ → Messages → Messages
before message others = record { read = message ∷ others.read; refusal = others.refusal }

-- what reading at the front found, and what stands behind so many bytes
unfoldable pub found : Result (Option (Pdu × ℕ)) Refusal → (ℕ → Messages) → Messages
found (Ok None) behind = none_left
found (Ok (Some message)) behind = before message (behind message.1)
found (Err r) behind = record { read = []; refusal = Some r }

-- the messages from the front on, so many at most
unfoldable pub messages_within : ℕ → List ℕ → Messages
messages_within zero bytes = none_left
messages_within (suc most) bytes = found (message_at bytes) (λ size. messages_within most (drop size bytes))

-- all of them: each has some bytes, so there are not more messages than bytes
abbrev pub messages_of : List ℕ → Messages
messages_of payload = messages_within (length payload) payload
