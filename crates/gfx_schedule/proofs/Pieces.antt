-- A client inside messages that were sent to it, cut anywhere.
use Rattle.std.proofs.Common.{◌≡◌, ℕ, List, [], ◌∷◌, ◌++◌, length, None, Result, Ok, refl, sym, ap, ◌∙◌, subst, append_assoc}
use Rattle.gfx_base.proofs.ResultLemmas.{and_then_at}
use Rattle.gfx_base.specs.Memory.{next_count}
use Rattle.gfx_base.specs.declared.refusal.Refusal.{Refusal}
use Rattle.gfx_pdu.specs.declared.pdu.Pdu.{Pdu}
use Rattle.gfx_pdu.specs.Spelling.{spelling}
use Rattle.gfx_segment.specs.Framing.{Whole, Short, Bad, front, payload, wrapped, ReadBack}
use Rattle.gfx_segment.proofs.FrontLemmas.{front-nil, front-append_whole, front-append_bad}
use Rattle.gfx_segment.proofs.ReadBackLemmas.{read_back}
use Rattle.gfx_state.specs.State.{State}
use Rattle.gfx_state.specs.Step.{step}
use Rattle.gfx_state.specs.Run.{Run, deliver, opened, eats}
use Rattle.gfx_state.specs.Sending.{all_steps, sent, IsCarried, standing}
use Rattle.gfx_state.specs.History.{effects, messages_read, history, spelled}
use Rattle.gfx_state.proofs.Runs.{eats_short, eats_whole}
use Rattle.gfx_state.proofs.Sent.{messages_of-spelling, all_steps-cons, sent-cons, sent-nil, opened_one, deliver_one}
use Rattle.gfx_state.proofs.Effects.{nothing, effects_cons, history_short, history_whole}
use Rattle.gfx_planner.proofs.Effects.{all_steps-none}
use Rattle.gfx_schedule.proofs.Lists.{nil_parts}
use Rattle.gfx_schedule.specs.Pieces.{IsInside, HasRead, MessagesAreReadInPieces}

all_steps-first : (state next last : State) (pdu : Pdu) (pdus : List Pdu) → step state pdu ≡ Ok next → all_steps next pdus ≡ Ok last → all_steps state (pdu ∷ pdus) ≡ Ok last
unfolding all_steps
all_steps-first state next last pdu pdus stepped others = and_then_at (step state pdu) next (λ s. all_steps s pdus) stepped ∙ others

-- no message is whole yet
still : (run : Run) (bytes behind : List ℕ) (todo : List Pdu) (last : State) → IsInside run (bytes ++ behind) todo last → front (run.rest ++ bytes) ≡ Short → HasRead run bytes behind todo last
still run bytes behind todo last inside short =
    let after = eats_short run bytes inside.goes_on short in
    record {
      done = [];
      left = todo;
      cut = refl;
      steps = all_steps-none run.state ∙ ap (λ z. Ok z.state) (sym after);
      made = history_short run bytes inside.goes_on short ∙ sym (nothing run.state);
      inside = record {
        goes_on = ap (λ z. z.refusal) after ∙ inside.goes_on;
        short = ap (λ z. front z.rest) after ∙ short;
        bytes_are = ap (λ z. z.rest ++ behind) after ∙ append_assoc run.rest bytes behind ∙ inside.bytes_are;
        carried = inside.carried;
        accepted = ap (λ z. all_steps z.state todo) after ∙ inside.accepted;
      };
    }

-- a message is whole: the first one
record Opens (run : Run) (bytes behind : List ℕ) (pdu : Pdu) (pdus : List Pdu) (message after : List ℕ) : Type 0 where
  same : payload message ≡ Ok (spelling pdu)
  rest : after ++ behind ≡ sent pdus

opens : (run : Run) (bytes behind message after : List ℕ) (pdu : Pdu) (pdus : List Pdu) → IsCarried pdu → run.rest ++ (bytes ++ behind) ≡ sent (pdu ∷ pdus) → front (run.rest ++ bytes) ≡ Whole message after
    → Opens run bytes behind pdu pdus message after
opens run bytes behind message after pdu pdus carried bytes_are whole =
    let back : ReadBack (spelling pdu) (sent pdus) = read_back (spelling pdu) (sent pdus) carried.short in
    let here = front-append_whole (run.rest ++ bytes) behind message after whole in
    let all : (run.rest ++ bytes) ++ behind ≡ wrapped (spelling pdu) ++ sent pdus = append_assoc run.rest bytes behind ∙ bytes_are ∙ sent-cons pdu pdus in
    let there : front ((run.rest ++ bytes) ++ behind) ≡ Whole back.message (sent pdus) = ap front all ∙ back.whole in
    let same : message ≡ back.message = cc in
    record { same = ap payload same ∙ back.same; rest = cc }

never_bad : (run : Run) (bytes behind : List ℕ) (pdu : Pdu) (pdus : List Pdu) → IsCarried pdu → run.rest ++ (bytes ++ behind) ≡ sent (pdu ∷ pdus) → front (run.rest ++ bytes) ≡ Bad → ⊥
never_bad run bytes behind pdu pdus carried bytes_are bad =
    let back : ReadBack (spelling pdu) (sent pdus) = read_back (spelling pdu) (sent pdus) carried.short in
    let here = front-append_bad (run.rest ++ bytes) behind bad in
    let all : (run.rest ++ bytes) ++ behind ≡ wrapped (spelling pdu) ++ sent pdus = append_assoc run.rest bytes behind ∙ bytes_are ∙ sent-cons pdu pdus in
    let there : front ((run.rest ++ bytes) ++ behind) ≡ Whole back.message (sent pdus) = ap front all ∙ back.whole in
    absurd cc

read_one : (pdu : Pdu) (read : Result (List ℕ) Refusal) → read ≡ Ok (spelling pdu) → IsCarried pdu → messages_read read ≡ (pdu, length (spelling pdu)) ∷ []
unfolding messages_read
read_one pdu read same carried = ap messages_read same ∙ ap (λ z. z.read) (messages_of-spelling pdu carried)

-- the run behind it
opened_is : (run : Run) (next : State) (pdu : Pdu) (message : List ℕ) → run.refusal ≡ None → IsCarried pdu → step run.state pdu ≡ Ok next → payload message ≡ Ok (spelling pdu)
    → opened (record run { rest = [] }) (payload message) ≡ standing next (next_count run.applied)
opened_is run next pdu message goes_on carried stepped same =
    let clear : record run { rest = [] } ≡ standing run.state run.applied = λ i. record { state = run.state; applied = run.applied; rest = []; refusal = goes_on i } in
    ap (λ z. opened z (payload message)) clear ∙ opened_one (standing run.state run.applied) (spelling pdu) (payload message) same
    ∙ ap (deliver (standing run.state run.applied)) (messages_of-spelling pdu carried) ∙ deliver_one run.state next run.applied pdu (length (spelling pdu)) stepped

-- the first message is applied, and others behind it
goes_on_with : (run : Run) (next : State) (bytes behind message after : List ℕ) (pdu : Pdu) (pdus : List Pdu) (last : State) → IsInside run (bytes ++ behind) (pdu ∷ pdus) last → front (run.rest ++ bytes) ≡ Whole message after
    → step run.state pdu ≡ Ok next → payload message ≡ Ok (spelling pdu) → HasRead (standing next (next_count run.applied)) after behind pdus last → HasRead run bytes behind (pdu ∷ pdus) last
goes_on_with run next bytes behind message after pdu pdus last inside whole stepped same more =
    let opened_to = opened_is run next pdu message inside.goes_on inside.carried.0 stepped same in
    let ran : eats run bytes ≡ eats (standing next (next_count run.applied)) after = eats_whole run bytes message after inside.goes_on inside.short whole ∙ ap (λ z. eats z after) opened_to in
    let text : Pdu × ℕ = (pdu, length (spelling pdu)) in
    let first : effects run.state (messages_read (payload message)) ≡ record { pdu = pdu; size = length (spelling pdu); state = next } ∷ [] =
    ap (effects run.state) (read_one pdu (payload message) same inside.carried.0) ∙ effects_cons run.state next text [] stepped ∙ ap (λ z. record { pdu = pdu; size = length (spelling pdu); state = next } ∷ z) (nothing next) in
    record {
      done = pdu ∷ more.done;
      left = more.left;
      cut = ap (λ z. pdu ∷ z) more.cut;
      steps = all_steps-first run.state next _ pdu more.done stepped more.steps ∙ ap (λ z. Ok z.state) (sym ran);
      made =
          history_whole run bytes message after inside.goes_on inside.short whole
          ∙ ap (λ z. z ++ history (opened (record run { rest = [] }) (payload message)) after) first
          ∙ ap (λ z. record { pdu = pdu; size = length (spelling pdu); state = next } ∷ history z after) opened_to
          ∙ ap (λ z. record { pdu = pdu; size = length (spelling pdu); state = next } ∷ z) more.made
          ∙ sym (effects_cons run.state next text (spelled more.done) stepped);
      inside = subst (λ z. IsInside z behind more.left last) (sym ran) more.inside;
    }

pub messages_are_read_in_pieces : MessagesAreReadInPieces
messages_are_read_in_pieces run bytes behind [] last inside =
    let none : (run.rest ++ bytes) ++ behind ≡ [] = append_assoc run.rest bytes behind ∙ inside.bytes_are ∙ sent-nil in
    still run bytes behind [] last inside (ap front (nil_parts (run.rest ++ bytes) behind none).0 ∙ front-nil)
messages_are_read_in_pieces run bytes behind (pdu ∷ pdus) last inside =
    let s = all_steps-cons run.state last pdu pdus inside.accepted in
    let later = λ (message after : List ℕ) (whole : front (run.rest ++ bytes) ≡ Whole message after).
    let o = opens run bytes behind message after pdu pdus inside.carried.0 inside.bytes_are whole in
    goes_on_with run s.0 bytes behind message after pdu pdus last inside whole s.1 o.same
    (messages_are_read_in_pieces (standing s.0 (next_count run.applied)) after behind pdus last record { goes_on = refl; short = front-nil; bytes_are = o.rest; carried = inside.carried.1; accepted = s.2 }) in
    elim (front (run.rest ++ bytes)) as (λ f. front (run.rest ++ bytes) ≡ f → HasRead run bytes behind (pdu ∷ pdus) last) [
      | Short ↦ λ short. still run bytes behind (pdu ∷ pdus) last inside short
      | Bad ↦ λ bad. absurd (never_bad run bytes behind pdu pdus inside.carried.0 inside.bytes_are bad)
      | Whole message after ↦ λ whole. later message after whole
    ] refl
