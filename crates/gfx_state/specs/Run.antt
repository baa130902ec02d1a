-- What a stream comes to, as a function of its bytes: one byte after another is put to those of the
-- unfinished channel message, and where that is whole, its messages are applied.
use Rattle.std.specs.Prelude.{ℕ, List, [], ◌∷◌, ◌++◌, length, ◌==◌, Option, Some, None, is_some, Result, Ok, Err, fold, if◌then◌else◌}
use Rattle.gfx_base.specs.Memory.{next_count}
use Rattle.gfx_base.specs.declared.refusal.Refusal.{Refusal}
use Rattle.gfx_base.specs.declared.refusal.Refusal.TheVariants.{ChannelLength, ChannelTruncated}
use Rattle.gfx_pdu.specs.declared.pdu.Pdu.{Pdu}
use Rattle.gfx_segment.specs.Framing.{Front, Whole, Short, Bad, front, payload}
use Rattle.gfx_state.specs.State.{State, fresh}
use Rattle.gfx_state.specs.Step.{step}
use Rattle.gfx_state.specs.Payload.{Messages, messages_of}

-- a stream as far as it has come
pub record Run : Type 0 where
  pub state : State
  -- how many messages were applied, up to the last value of a count
  pub applied : ℕ
  -- the bytes of the channel message that isn't whole yet
  pub rest : List ℕ
  -- why the message after those was refused: nothing is read behind it
  pub refusal : Option Refusal

-- nothing has come yet, from this state on
abbrev pub begun_from : State → Run
begun_from start = record { state = start; applied = 0; rest = []; refusal = None }

-- nothing has come yet
abbrev pub begun : Run
begun = begun_from fresh

-- the run ends with this refusal
abbrev pub refuse : Run → Refusal → Run
refuse run r = record run { rest = []; refusal = Some r }

-- a run that goes on only where nothing was refused
abbrev pub unless_refused : Run → Run → Run
unless_refused run next = if is_some run.refusal then run else next

-- a message's effect
unfoldable pub took : Run → Result State Refusal → Run
took run (Ok state) = record run { state = state; applied = next_count run.applied }
took run (Err r) = refuse run r

-- a message, with its length
unfoldable pub apply : Run → Pdu × ℕ → Run
apply run message = unless_refused run (took run (step run.state message.0))

-- a message that can't be read, where there is one
unfoldable pub close : Run → Option Refusal → Run
close run None = run
close run (Some r) = unless_refused run (refuse run r)

-- the messages of a payload
unfoldable pub deliver : Run → Messages → Run
deliver run messages = close (fold apply run messages.read) messages.refusal

-- a whole channel message
unfoldable pub opened : Run → Result (List ℕ) Refusal → Run
opened run (Ok payload) = deliver run (messages_of payload)
opened run (Err r) = refuse run r

-- what the bytes that are held come to
unfoldable pub judge : Run → List ℕ → Front → Run
judge run bytes (Whole message after) = opened (record run { rest = after }) (payload message)
judge run bytes Short = record run { rest = bytes }
judge run bytes Bad = refuse run ChannelLength

-- one byte
unfoldable pub eat : Run → ℕ → Run
eat run byte =
    unless_refused run (judge run (run.rest ++ byte ∷ []) (front (run.rest ++ byte ∷ [])))

-- one byte after another
unfoldable pub eats : Run → List ℕ → Run
eats run bytes = fold eat run bytes

-- the run of a stream from a start: the state before its first message
abbrev pub run_from : State → List ℕ → Run
run_from start bytes = eats (begun_from start) bytes

-- the run of a stream
abbrev pub run_of : List ℕ → Run
run_of bytes = run_from fresh bytes

-- the end of a stream: nothing may be left of a channel message
unfoldable pub end : Run → Run
end run = unless_refused run (if length run.rest == 0 then run else refuse run ChannelTruncated)
