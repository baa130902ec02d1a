-- What sending one message comes to, and what messages leave of the server's end.
use Rattle.std.proofs.Common.{◌≡◌, ℕ, List, [], ◌∷◌, ◌++◌, Ok, refl, sym, ap, ◌∙◌}
use Rattle.std.specs.Result.{IsOk, is_ok}
use Rattle.std.proofs.lemmas.List.{append-nil}
use Rattle.gfx_base.proofs.ResultLemmas.{and_then_at}
use Rattle.gfx_pdu.specs.declared.pdu.Pdu.{Pdu}
use Rattle.gfx_pdu.specs.Spelling.{spelling}
use Rattle.gfx_segment.specs.Framing.{wrapped}
use Rattle.gfx_state.specs.State.{State}
use Rattle.gfx_state.specs.Step.{step}
use Rattle.gfx_state.specs.Sending.{all_steps, sent}
use Rattle.gfx_planner.specs.Server.{Server}
use Rattle.gfx_planner.specs.After.{reached, after_messages}
use Rattle.gfx_planner.specs.Planned.{PutsFront}

pub all_steps-none : (state : State) → all_steps state [] ≡ Ok state
unfolding all_steps
all_steps-none state = refl

pub all_steps-one : (state next : State) (pdu : Pdu) → step state pdu ≡ Ok next → all_steps state (pdu ∷ []) ≡ Ok next
unfolding all_steps
all_steps-one state next pdu stepped = and_then_at (step state pdu) next (λ s. all_steps s []) stepped

pub accepted_ok : (state next : State) (pdus : List Pdu) → all_steps state pdus ≡ Ok next → IsOk (all_steps state pdus)
accepted_ok state next pdus accepted = ap is_ok accepted

-- where messages are accepted, the server's end goes on from the state that they give
pub after_messages-is : (server : Server) (pdus : List Pdu) (next : State) → all_steps server.state pdus ≡ Ok next → after_messages server pdus ≡ record server { state = next }
unfolding after_messages reached
after_messages-is server pdus next accepted = ap (λ r. record server { state = reached server.state r }) accepted

pub sent-none : sent [] ≡ []
unfolding sent
sent-none = refl

pub sent-one : (pdu : Pdu) → sent (pdu ∷ []) ≡ wrapped (spelling pdu)
unfolding sent
sent-one pdu = append-nil (wrapped (spelling pdu))

-- it was put out and accepted
pub sent_and_accepted : (state next : State) (before now payload : List ℕ) (pdu : Pdu) → step state pdu ≡ Ok next → payload ≡ spelling pdu → now ≡ before ++ wrapped payload
    → (all_steps state (pdu ∷ []) ≡ Ok next) × (now ≡ before ++ sent (pdu ∷ []))
sent_and_accepted state next before now payload pdu stepped spelled wrote =
    (all_steps-one state next pdu stepped, wrote ∙ ap (λ z. before ++ wrapped z) spelled ∙ ap (λ z. before ++ z) (sym (sent-one pdu)))

-- it was put out
pub sent_whole : (before now payload : List ℕ) (pdu : Pdu) → payload ≡ spelling pdu → now ≡ before ++ wrapped payload → PutsFront before now (sent (pdu ∷ []))
sent_whole before now payload pdu spelled wrote = record {
  part = sent (pdu ∷ []);
  rest = [];
  cut = sym (append-nil (sent (pdu ∷ [])));
  gained = wrote ∙ ap (λ z. before ++ wrapped z) spelled ∙ ap (λ z. before ++ z) (sym (sent-one pdu));
}

-- nothing was put out
pub sent_nothing : (before due : List ℕ) → PutsFront before before due
sent_nothing before due = record { part = []; rest = due; cut = refl; gained = sym (append-nil before) }
