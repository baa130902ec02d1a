-- What a stream has brought about: the messages that were applied, each with its length and the state
-- right after it. It is empty behind a refusal, and where two streams are joined so are their histories.
use Rattle.std.specs.Prelude.{◌≡◌, ℕ, Bool, true, false, List, [], ◌∷◌, ◌++◌, length, map, filter, fold, Option, Some, None, is_some, if◌then◌else◌, Result, Ok, Err}
use Rattle.gfx_base.specs.Memory.{next_count}
use Rattle.gfx_base.specs.declared.refusal.Refusal.{Refusal}
use Rattle.gfx_pdu.specs.declared.pdu.Pdu.{Pdu}
use Rattle.gfx_pdu.specs.declared.pdu.Pdu.TheVariants.{EndFrame}
use Rattle.gfx_pdu.specs.Spelling.{spelling}
use Rattle.gfx_segment.specs.Framing.{Front, Whole, Short, Bad, front, payload}
use Rattle.gfx_state.specs.State.{State, fresh}
use Rattle.gfx_state.specs.Step.{step}
use Rattle.gfx_state.specs.Payload.{messages_of}
use Rattle.gfx_state.specs.Run.{Run, begun_from, deliver, eat}
use Rattle.gfx_state.specs.Cursor.{Cursor, run_at}

-- a message that was applied, its length on the wire (pduLength), and the state right after it
pub record Effect : Type 0 where
  pub pdu : Pdu
  pub size : ℕ
  pub state : State

-- the effect of a message that is accepted, before those behind it; a refused one has none
unfoldable pub effect : Pdu × ℕ → Result State Refusal → (State → List Effect) → List Effect
effect message (Ok next) behind = record { pdu = message.0; size = message.1; state = next } ∷ behind next
effect message (Err r) behind = []

-- the effects of these messages, one after another, up to the first that is refused
unfoldable pub effects : State → List (Pdu × ℕ) → List Effect
effects state [] = []
effects state (message ∷ messages) = effect message (step state message.0) (λ next. effects next messages)

-- the messages of a payload that is read
unfoldable pub messages_read : Result (List ℕ) Refusal → List (Pdu × ℕ)
messages_read (Ok payload_bytes) = (messages_of payload_bytes).read
messages_read (Err r) = []

-- the messages of the channel message at the front, where it is whole
unfoldable pub messages_whole : Front → List (Pdu × ℕ)
messages_whole (Whole message after) = messages_read (payload message)
messages_whole Short = []
messages_whole Bad = []

-- what one more byte brings about
unfoldable pub brings : Run → ℕ → List Effect
brings run byte =
    if is_some run.refusal then [] else effects run.state (messages_whole (front (run.rest ++ byte ∷ [])))

-- what more bytes bring about, one after another
unfoldable pub history : Run → List ℕ → List Effect
history run [] = []
history run (byte ∷ bytes) = brings run byte ++ history (eat run byte) bytes

-- the history of a stream from a start
abbrev pub history_from : State → List ℕ → List Effect
history_from start bytes = history (begun_from start) bytes

-- the history of a stream
abbrev pub history_of : List ℕ → List Effect
history_of bytes = history_from fresh bytes

-- the messages applied, each with its length on the wire
abbrev pub applied_in : Run → List ℕ → List (Pdu × ℕ)
applied_in run bytes = map (λ e. (e.pdu, e.size)) (history run bytes)

-- a message that ends a frame
abbrev pub ends_frame : Pdu → Bool
ends_frame (EndFrame frame) = true
ends_frame other = false

-- the states right after the messages that end a frame
abbrev pub end_states : List Effect → List State
end_states all = map (λ e. e.state) (filter (λ e. ends_frame e.pdu) all)

-- the states right after each EndFrame
abbrev pub ended : Run → List ℕ → List State
ended run bytes = end_states (history run bytes)

-- messages with the lengths of their spellings
abbrev pub spelled : List Pdu → List (Pdu × ℕ)
spelled pdus = map (λ pdu. (pdu, length (spelling pdu))) pdus

-- the states right after each EndFrame of messages that are sent from this state on
abbrev pub ends_of : State → List Pdu → List State
ends_of state pdus = end_states (effects state (spelled pdus))

-- the state after these effects
abbrev pub state_after : State → List Effect → State
state_after state all = fold (λ before e. e.state) state all

-- these effects lead from one run to another: to its state, and to its count of messages
pub record LeadsTo (run : Run) (all : List Effect) (next : Run) : Type 0 where
  pub state : next.state ≡ state_after run.state all
  pub applied : next.applied ≡ fold (λ count e. next_count count) run.applied all

-- a client inside a stream ---------------------------------------------------------------------------

-- what the bytes that a splitter holds bring about
unfoldable pub history_held : Run → Option Refusal → List ℕ → List Effect
history_held run None bytes = history run bytes
history_held run (Some r) bytes = []

-- what the cursor will yet bring about with no more bytes
unfoldable pub coming : Cursor → List Effect
coming cursor =
    effects cursor.state (messages_of cursor.left).read ++ history_held (deliver (run_at cursor) (messages_of cursor.left)) cursor.splitter.refusal cursor.splitter.rest

-- what moves from one cursor to another brought about, and nothing else of what was to come
pub record BringsAbout (from to : Cursor) (pdus : List Pdu) : Type 0 where
  pub all : List Effect
  pub messages : map (λ e. e.pdu) all ≡ pdus
  pub first : coming from ≡ all ++ coming to
  pub state : to.state ≡ state_after from.state all
