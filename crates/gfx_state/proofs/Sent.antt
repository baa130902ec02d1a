-- What was sent is read back: the run of sent messages is their steps.
use Rattle.std.proofs.Common.{◌≡◌, ℕ, List, [], ◌∷◌, ◌++◌, length, Some, Result, Ok, refl, sym, ap, append_assoc, ◌∙◌, arith}
use Rattle.std.specs.List.{AllByRecursion}
use Rattle.std.proofs.lemmas.List.{append-nil, drop_all}
use Rattle.gfx_base.specs.Memory.{next_count}
use Rattle.gfx_base.specs.Results.{and_then}
use Rattle.gfx_base.proofs.ResultLemmas.{and_then_ok, and_then_assoc}
use Rattle.gfx_base.specs.declared.refusal.Refusal.{Refusal}
use Rattle.gfx_pdu.specs.declared.pdu.Pdu.{Pdu}
use Rattle.gfx_pdu.specs.Reading.{message_at}
use Rattle.gfx_pdu.specs.Spelling.{spelling}
use Rattle.gfx_pdu.proofs.Laws.{message_at-spelling}
use Rattle.gfx_segment.specs.Framing.{payload, wrapped, ReadBack}
use Rattle.gfx_segment.proofs.FrontLemmas.{front-nil}
use Rattle.gfx_segment.proofs.ReadBackLemmas.{read_back}
use Rattle.gfx_state.specs.State.{State}
use Rattle.gfx_state.specs.Step.{step}
use Rattle.gfx_state.specs.Payload.{none_left, before, messages_of}
use Rattle.gfx_state.specs.Run.{Run, took, apply, close, deliver, opened, eats}
use Rattle.gfx_state.specs.Sending.{all_steps, sent, IsCarried, standing, count_after}
use Rattle.gfx_state.proofs.Payloads.{messages_of_more, messages_of_none, message_at-nil}
use Rattle.gfx_state.proofs.Runs.{eats-nil, eats_whole}

-- a message's own payload holds that message and no other
pub messages_of-spelling : (pdu : Pdu) → IsCarried pdu → messages_of (spelling pdu) ≡ before (pdu, length (spelling pdu)) none_left
messages_of-spelling pdu carried =
    let text = spelling pdu in
    let read : message_at text ≡ Ok (Some (pdu, length text)) =
    ap message_at (sym (append-nil text)) ∙ message_at-spelling pdu [] carried.fits in
    messages_of_more text (pdu, length text) read
    ∙ ap (λ z. before (pdu, length text) (messages_of z)) (drop_all (length text) text (omega arith))
    ∙ ap (before (pdu, length text)) (messages_of_none [] message_at-nil)

-- its effect on a run that stands between two channel messages
pub deliver_one : (state next : State) (applied : ℕ) (pdu : Pdu) (size : ℕ) → step state pdu ≡ Ok next
    → deliver (standing state applied) (before (pdu, size) none_left) ≡ standing next (next_count applied)
unfolding deliver close apply took
deliver_one state next applied pdu size stepped = ap (took (standing state applied)) stepped

pub opened_one : (run : Run) (p : List ℕ) (read : Result (List ℕ) Refusal) → read ≡ Ok p → opened run read ≡ deliver run (messages_of p)
unfolding opened
opened_one run p read e = rw e refl

-- one sent message
eats_one : (state next : State) (applied : ℕ) (pdu : Pdu) (more : List ℕ) → IsCarried pdu → step state pdu ≡ Ok next
    → eats (standing state applied) (wrapped (spelling pdu) ++ more) ≡ eats (standing next (next_count applied)) more
eats_one state next applied pdu more carried stepped =
    let run = standing state applied in
    let back : ReadBack (spelling pdu) more = read_back (spelling pdu) more carried.short in
    eats_whole run (wrapped (spelling pdu) ++ more) back.message more refl front-nil back.whole
    ∙ ap (λ z. eats z more) (opened_one run (spelling pdu) (payload back.message) back.same
    ∙ ap (deliver run) (messages_of-spelling pdu carried) ∙ deliver_one state next applied pdu (length (spelling pdu)) stepped)

pub all_steps-cons : (state last : State) (pdu : Pdu) (pdus : List Pdu) → all_steps state (pdu ∷ pdus) ≡ Ok last
    → (next : State) × (step state pdu ≡ Ok next) × (all_steps next pdus ≡ Ok last)
unfolding all_steps
all_steps-cons state last pdu pdus e = and_then_ok (step state pdu) (λ next. all_steps next pdus) last e

pub all_steps-nil : (state last : State) → all_steps state [] ≡ Ok last → state ≡ last
unfolding all_steps
all_steps-nil state last e = cc

pub sent-cons : (pdu : Pdu) (pdus : List Pdu) → sent (pdu ∷ pdus) ≡ wrapped (spelling pdu) ++ sent pdus
unfolding sent
sent-cons pdu pdus = refl

pub sent-nil : sent [] ≡ []
unfolding sent
sent-nil = refl

-- messages that are carried and accepted, one after another
pub eats-sent : (state last : State) (applied : ℕ) (pdus : List Pdu) → AllByRecursion IsCarried pdus → all_steps state pdus ≡ Ok last
    → eats (standing state applied) (sent pdus) ≡ standing last (count_after applied pdus)
eats-sent state last applied [] carried e =
    ap (eats (standing state applied)) sent-nil ∙ eats-nil (standing state applied) ∙ ap (λ z. standing z applied) (all_steps-nil state last e)
eats-sent state last applied (pdu ∷ pdus) carried e =
    let s = all_steps-cons state last pdu pdus e in
    ap (eats (standing state applied)) (sent-cons pdu pdus)
    ∙ eats_one state s.0 applied pdu (sent pdus) carried.0 s.1
    ∙ eats-sent s.0 last (next_count applied) pdus carried.1 s.2

-- in two parts
pub sent-append : (xs ys : List Pdu) → sent (xs ++ ys) ≡ sent xs ++ sent ys
sent-append [] ys = ap (λ z. z ++ sent ys) (sym sent-nil)
sent-append (x ∷ xs) ys =
    sent-cons x (xs ++ ys) ∙ ap (λ z. wrapped (spelling x) ++ z) (sent-append xs ys)
    ∙ sym (append_assoc (wrapped (spelling x)) (sent xs) (sent ys)) ∙ ap (λ z. z ++ sent ys) (sym (sent-cons x xs))

-- one message after others
pub all_steps-append : (state : State) (xs ys : List Pdu) → all_steps state (xs ++ ys) ≡ and_then (all_steps state xs) (λ next. all_steps next ys)
unfolding all_steps and_then
all_steps-append state [] ys = refl
all_steps-append state (x ∷ xs) ys = (λ i. and_then (step state x) (λ next. all_steps-append next xs ys i)) ∙ sym (and_then_assoc (step state x) (λ next. all_steps next xs) (λ next. all_steps next ys))
