-- Messages that are sent one after another, each in a channel message of its own, and what they come
-- to: this project's own rule.
use Rattle.std.specs.Prelude.{ℕ, ◌≤◌, List, [], ◌∷◌, ◌++◌, length, fold, None, Result, Ok}
use Rattle.gfx_base.specs.Memory.{next_count}
use Rattle.gfx_base.specs.Results.{◌>>=◌}
use Rattle.gfx_base.specs.declared.refusal.Refusal.{Refusal}
use Rattle.gfx_pdu.specs.declared.pdu.Pdu.{Pdu}
use Rattle.gfx_pdu.specs.Spelling.{spelling, Fits}
use Rattle.gfx_segment.specs.Framing.{wrapped}
use Rattle.gfx_segment.specs.declared.profile.TheConstants.{MOST_PAYLOAD}
use Rattle.gfx_state.specs.State.{State}
use Rattle.gfx_state.specs.Step.{step}
use Rattle.gfx_state.specs.Run.{Run}

-- the state after these messages, or the first refusal
unfoldable pub all_steps : State → List Pdu → Result State Refusal
all_steps state [] = Ok state
all_steps state (pdu ∷ pdus) = do
  next ← step state pdu
  all_steps next pdus

-- the bytes of these messages
unfoldable pub sent : List Pdu → List ℕ
sent [] = []
sent (pdu ∷ pdus) = wrapped (spelling pdu) ++ sent pdus

-- a message that a channel message can carry
pub record IsCarried (pdu : Pdu) : Type 0 where
  pub fits : Fits pdu
  pub short : length (spelling pdu) ≤ MOST_PAYLOAD

-- a run between two channel messages, so many messages after its start
abbrev pub standing : State → ℕ → Run
standing state applied = record { state = state; applied = applied; rest = []; refusal = None }

-- the count of messages after these
abbrev pub count_after : ℕ → List Pdu → ℕ
count_after applied pdus = fold (λ n pdu. next_count n) applied pdus
