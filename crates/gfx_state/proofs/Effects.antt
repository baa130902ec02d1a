-- The history of a stream: in pieces, behind a refusal, and channel message by channel message.
use Rattle.std.proofs.Common.{◌≡◌, ℕ, List, [], ◌∷◌, ◌++◌, length, map, Some, None, Result, Ok, refl, sym, ap, ◌∙◌, append_assoc}
use Rattle.std.specs.List.{AllByRecursion, filter}
use Rattle.std.proofs.lemmas.List.{append-nil, map-append}
use Rattle.std.proofs.lemmas.List.Elements.{filter-append}
use Rattle.gfx_base.specs.Memory.{next_count}
use Rattle.gfx_base.specs.declared.refusal.Refusal.{Refusal}
use Rattle.gfx_base.specs.declared.refusal.Refusal.TheVariants.{ChannelLength}
use Rattle.gfx_pdu.specs.declared.pdu.Pdu.{Pdu}
use Rattle.gfx_pdu.specs.Spelling.{spelling}
use Rattle.gfx_segment.specs.Framing.{Front, Whole, Short, Bad, front, payload, wrapped, ReadBack}
use Rattle.gfx_segment.proofs.FrontLemmas.{front-nil, front-append_whole, front-append_bad}
use Rattle.gfx_segment.proofs.ReadBackLemmas.{read_back}
use Rattle.gfx_state.specs.State.{State}
use Rattle.gfx_state.specs.Step.{step}
use Rattle.gfx_state.specs.Run.{Run, refuse, deliver, opened, eat, eats}
use Rattle.gfx_state.specs.Sending.{all_steps, sent, IsCarried, standing}
use Rattle.gfx_state.specs.History.{Effect, effect, effects, messages_read, messages_whole, brings, history, applied_in, ends_frame, end_states, ended, spelled, ends_of, state_after}
use Rattle.gfx_state.proofs.Runs.{eats-nil, eats_more, eat_refused, eat_short, eat_bad, eat_whole, front_fewer, front_ends, regrouped}
use Rattle.gfx_state.proofs.Sent.{messages_of-spelling, all_steps-cons, all_steps-nil, sent-cons, sent-nil, opened_one, deliver_one}

-- cut anywhere ------------------------------------------------------------------------------------

pub history-nil : (run : Run) → history run [] ≡ []
unfolding history
history-nil run = refl

pub history_more : (run : Run) (x : ℕ) (xs : List ℕ) → history run (x ∷ xs) ≡ brings run x ++ history (eat run x) xs
unfolding history
history_more run x xs = refl

pub history-append : (run : Run) (xs ys : List ℕ) → history run (xs ++ ys) ≡ history run xs ++ history (eats run xs) ys
history-append run [] ys =
    sym (ap (λ z. z ++ history (eats run []) ys) (history-nil run) ∙ ap (λ z. history z ys) (eats-nil run))
history-append run (x ∷ xs) ys =
    history_more run x (xs ++ ys)
    ∙ ap (λ z. brings run x ++ z) (history-append (eat run x) xs ys)
    ∙ sym (append_assoc (brings run x) (history (eat run x) xs) (history (eats (eat run x) xs) ys))
    ∙ sym (ap (λ z. z ++ history (eats run (x ∷ xs)) ys) (history_more run x xs) ∙ ap (λ z. (brings run x ++ history (eat run x) xs) ++ history z ys) (eats_more run x xs))

pub applied_in-append : (run : Run) (xs ys : List ℕ) → applied_in run (xs ++ ys) ≡ applied_in run xs ++ applied_in (eats run xs) ys
applied_in-append run xs ys =
    ap (map (λ (e : Effect). (e.pdu, e.size))) (history-append run xs ys) ∙ map-append (λ (e : Effect). (e.pdu, e.size)) (history run xs) (history (eats run xs) ys)

pub end_states-append : (xs ys : List Effect) → end_states (xs ++ ys) ≡ end_states xs ++ end_states ys
end_states-append xs ys =
    ap (map (λ (e : Effect). e.state)) (filter-append (λ (e : Effect). ends_frame e.pdu) xs ys)
    ∙ map-append (λ (e : Effect). e.state) (filter (λ e. ends_frame e.pdu) xs) (filter (λ e. ends_frame e.pdu) ys)

pub ended-append : (run : Run) (xs ys : List ℕ) → ended run (xs ++ ys) ≡ ended run xs ++ ended (eats run xs) ys
ended-append run xs ys = ap end_states (history-append run xs ys) ∙ end_states-append (history run xs) (history (eats run xs) ys)

-- behind a refusal --------------------------------------------------------------------------------

pub brings_refused : (run : Run) (r : Refusal) (x : ℕ) → run.refusal ≡ Some r → brings run x ≡ []
unfolding brings
brings_refused run r x e = rw e refl

pub history_refused : (run : Run) (r : Refusal) (xs : List ℕ) → run.refusal ≡ Some r → history run xs ≡ []
history_refused run r [] e = history-nil run
history_refused run r (x ∷ xs) e =
    history_more run x xs
    ∙ ap (λ z. z ++ history (eat run x) xs) (brings_refused run r x e)
    ∙ ap (λ z. history z xs) (eat_refused run r x e) ∙ history_refused run r xs e

-- one byte ----------------------------------------------------------------------------------------

pub brings_open : (run : Run) (x : ℕ) (f : Front) → run.refusal ≡ None → front (run.rest ++ x ∷ []) ≡ f → brings run x ≡ effects run.state (messages_whole f)
unfolding brings
brings_open run x f e found = rw e (ap (λ z. effects run.state (messages_whole z)) found)

pub nothing : (state : State) → effects state [] ≡ []
unfolding effects
nothing state = refl

brings_short : (run : Run) (x : ℕ) → run.refusal ≡ None → front (run.rest ++ x ∷ []) ≡ Short → brings run x ≡ []
unfolding messages_whole
brings_short run x e found = brings_open run x Short e found ∙ nothing run.state

brings_bad : (run : Run) (x : ℕ) → run.refusal ≡ None → front (run.rest ++ x ∷ []) ≡ Bad → brings run x ≡ []
unfolding messages_whole
brings_bad run x e found = brings_open run x Bad e found ∙ nothing run.state

brings_whole : (run : Run) (x : ℕ) (m a : List ℕ) → run.refusal ≡ None → front (run.rest ++ x ∷ []) ≡ Whole m a → brings run x ≡ effects run.state (messages_read (payload m))
unfolding messages_whole
brings_whole run x m a e found = brings_open run x (Whole m a) e found

-- many bytes --------------------------------------------------------------------------------------

-- a byte that brings nothing about
silent : (run next : Run) (x : ℕ) (xs : List ℕ) → brings run x ≡ [] → eat run x ≡ next → history run (x ∷ xs) ≡ history next xs
silent run next x xs none same =
    history_more run x xs ∙ ap (λ z. z ++ history (eat run x) xs) none ∙ ap (λ z. history z xs) same

pub history_short : (run : Run) (xs : List ℕ) → run.refusal ≡ None → front (run.rest ++ xs) ≡ Short → history run xs ≡ []
history_short run [] e found = history-nil run
history_short run (x ∷ xs) e found =
    let whole = ap front (regrouped run.rest x xs) ∙ found in
    let here = front_fewer (run.rest ++ x ∷ []) xs whole in
    silent run (record run { rest = run.rest ++ x ∷ [] }) x xs (brings_short run x e here) (eat_short run x e here)
    ∙ history_short (record run { rest = run.rest ++ x ∷ [] }) xs e whole

pub history_bad : (run : Run) (xs : List ℕ) → run.refusal ≡ None → front run.rest ≡ Short → front (run.rest ++ xs) ≡ Bad → history run xs ≡ []
history_bad run [] e short found = history-nil run
history_bad run (x ∷ xs) e short found =
    let all = ap front (regrouped run.rest x xs) ∙ found in
    let later = λ (here : front (run.rest ++ x ∷ []) ≡ Short). history_bad (record run { rest = run.rest ++ x ∷ [] }) xs e here all in
    elim (front (run.rest ++ x ∷ [])) as (λ f. front (run.rest ++ x ∷ []) ≡ f → history run (x ∷ xs) ≡ []) [
      | Short ↦ λ here. silent run _ x xs (brings_short run x e here) (eat_short run x e here) ∙ later here
      | Bad ↦ λ here. silent run _ x xs (brings_bad run x e here) (eat_bad run x e here) ∙ history_refused (refuse run ChannelLength) ChannelLength xs refl
      | Whole m a ↦ λ here. let whole = front-append_whole (run.rest ++ x ∷ []) xs m a here in absurd cc
    ] refl

-- a whole channel message has its effects, and the bytes after it have theirs
pub history_whole : (run : Run) (xs m a : List ℕ) → run.refusal ≡ None → front run.rest ≡ Short → front (run.rest ++ xs) ≡ Whole m a
    → history run xs ≡ effects run.state (messages_read (payload m)) ++ history (opened (record run { rest = [] }) (payload m)) a
history_whole run [] m a e short found =
    let same = ap front (append-nil run.rest) in absurd cc
history_whole run (x ∷ xs) m a e short found =
    let all = ap front (regrouped run.rest x xs) ∙ found in
    let later = λ (here : front (run.rest ++ x ∷ []) ≡ Short). history_whole (record run { rest = run.rest ++ x ∷ [] }) xs m a e here all in
    elim (front (run.rest ++ x ∷ [])) as (λ f. front (run.rest ++ x ∷ []) ≡ f → history run (x ∷ xs) ≡ effects run.state (messages_read (payload m)) ++ history (opened (record run { rest = [] }) (payload m)) a) [
      | Short ↦ λ here. silent run _ x xs (brings_short run x e here) (eat_short run x e here) ∙ later here
      | Bad ↦ λ here. let bad = front-append_bad (run.rest ++ x ∷ []) xs here in absurd cc
      | Whole m' a' ↦ λ here.
          let none = front_ends run.rest m' a' x short here in
          let whole = front-append_whole (run.rest ++ x ∷ []) xs m' a' here in
          let message : m' ≡ m = cc in
          let after : xs ≡ a = ap (λ z. z ++ xs) (sym none) ∙ (let joined : a' ++ xs ≡ a = cc in joined) in
          history_more run x xs
          ∙ ap (λ z. z ++ history (eat run x) xs) (brings_whole run x m' a' e here)
          ∙ ap (λ z. effects run.state (messages_read (payload m')) ++ history z xs) (eat_whole run x m' a' e here ∙ ap (λ z. opened (record run { rest = z }) (payload m')) none)
          ∙ ap (λ z. effects run.state (messages_read (payload z)) ++ history (opened (record run { rest = [] }) (payload z)) xs) message
          ∙ ap (λ z. effects run.state (messages_read (payload m)) ++ history (opened (record run { rest = [] }) (payload m)) z) after
    ] refl

-- messages that are sent ----------------------------------------------------------------------------

pub effects_cons : (state next : State) (message : Pdu × ℕ) (messages : List (Pdu × ℕ)) → step state message.0 ≡ Ok next
    → effects state (message ∷ messages) ≡ record { pdu = message.0; size = message.1; state = next } ∷ effects next messages
unfolding effects effect
effects_cons state next message messages stepped = ap (λ z. effect message z (λ after. effects after messages)) stepped

read_one : (pdu : Pdu) (read : Result (List ℕ) Refusal) → read ≡ Ok (spelling pdu) → IsCarried pdu → messages_read read ≡ (pdu, length (spelling pdu)) ∷ []
unfolding messages_read
read_one pdu read same carried = ap messages_read same ∙ ap (λ z. z.read) (messages_of-spelling pdu carried)

-- one sent message
history_one : (state next : State) (applied : ℕ) (pdu : Pdu) (more : List ℕ) → IsCarried pdu → step state pdu ≡ Ok next
    → history (standing state applied) (wrapped (spelling pdu) ++ more) ≡ record { pdu = pdu; size = length (spelling pdu); state = next } ∷ history (standing next (next_count applied)) more
history_one state next applied pdu more carried stepped =
    let run = standing state applied in
    let back : ReadBack (spelling pdu) more = read_back (spelling pdu) more carried.short in
    let text : Pdu × ℕ = (pdu, length (spelling pdu)) in
    history_whole run (wrapped (spelling pdu) ++ more) back.message more refl front-nil back.whole
    ∙ ap (λ z. effects state z ++ history (opened run (payload back.message)) more) (read_one pdu (payload back.message) back.same carried)
    ∙ ap (λ z. z ++ history (opened run (payload back.message)) more) (effects_cons state next text [] stepped ∙ ap (λ z. record { pdu = pdu; size = length (spelling pdu); state = next } ∷ z) (nothing next))
    ∙ ap (λ z. record { pdu = pdu; size = length (spelling pdu); state = next } ∷ history z more)
    (opened_one run (spelling pdu) (payload back.message) back.same ∙ ap (deliver run) (messages_of-spelling pdu carried) ∙ deliver_one state next applied pdu (length (spelling pdu)) stepped)

-- the history of messages that are carried and accepted is their effects
pub history-sent : (state last : State) (applied : ℕ) (pdus : List Pdu) → AllByRecursion IsCarried pdus → all_steps state pdus ≡ Ok last
    → history (standing state applied) (sent pdus) ≡ effects state (spelled pdus)
history-sent state last applied [] carried e = ap (history (standing state applied)) sent-nil ∙ history-nil (standing state applied) ∙ sym (nothing state)
history-sent state last applied (pdu ∷ pdus) carried e =
    let s = all_steps-cons state last pdu pdus e in
    ap (history (standing state applied)) (sent-cons pdu pdus)
    ∙ history_one state s.0 applied pdu (sent pdus) carried.0 s.1
    ∙ ap (λ z. record { pdu = pdu; size = length (spelling pdu); state = s.0 } ∷ z) (history-sent s.0 last (next_count applied) pdus carried.1 s.2)
    ∙ sym (effects_cons state s.0 (pdu, length (spelling pdu)) (spelled pdus) s.1)

-- accepted messages are all applied, and lead to the last state
pub effects_all : (state last : State) (pdus : List Pdu) → all_steps state pdus ≡ Ok last
    → (map (λ (e : Effect). (e.pdu, e.size)) (effects state (spelled pdus)) ≡ spelled pdus) × (state_after state (effects state (spelled pdus)) ≡ last)
effects_all state last [] e =
    (ap (map (λ (z : Effect). (z.pdu, z.size))) (nothing state), ap (state_after state) (nothing state) ∙ all_steps-nil state last e)
effects_all state last (pdu ∷ pdus) e =
    let s = all_steps-cons state last pdu pdus e in
    let first = effects_cons state s.0 (pdu, length (spelling pdu)) (spelled pdus) s.1 in
    let others = effects_all s.0 last pdus s.2 in (
      ap (map (λ (z : Effect). (z.pdu, z.size))) first ∙ ap (λ z. (pdu, length (spelling pdu)) ∷ z) others.0,
      ap (state_after state) first ∙ others.1,
    )

pub applied_in-sent : (state last : State) (applied : ℕ) (pdus : List Pdu) → AllByRecursion IsCarried pdus → all_steps state pdus ≡ Ok last
    → applied_in (standing state applied) (sent pdus) ≡ spelled pdus
applied_in-sent state last applied pdus carried e =
    ap (map (λ (z : Effect). (z.pdu, z.size))) (history-sent state last applied pdus carried e) ∙ (effects_all state last pdus e).0

pub ended-sent : (state last : State) (applied : ℕ) (pdus : List Pdu) → AllByRecursion IsCarried pdus → all_steps state pdus ≡ Ok last
    → ended (standing state applied) (sent pdus) ≡ ends_of state pdus
ended-sent state last applied pdus carried e = ap end_states (history-sent state last applied pdus carried e)

-- messages behind others that are accepted
pub effects-append : (state mid : State) (xs ys : List Pdu) → all_steps state xs ≡ Ok mid → effects state (spelled (xs ++ ys)) ≡ effects state (spelled xs) ++ effects mid (spelled ys)
effects-append state mid [] ys e =
    ap (λ z. effects z (spelled ys)) (all_steps-nil state mid e) ∙ sym (ap (λ z. z ++ effects mid (spelled ys)) (nothing state))
effects-append state mid (x ∷ xs) ys e =
    let s = all_steps-cons state mid x xs e in
    let text : Pdu × ℕ = (x, length (spelling x)) in
    effects_cons state s.0 text (spelled (xs ++ ys)) s.1
    ∙ ap (λ z. record { pdu = x; size = length (spelling x); state = s.0 } ∷ z) (effects-append s.0 mid xs ys s.2)
    ∙ sym (ap (λ z. z ++ effects mid (spelled ys)) (effects_cons state s.0 text (spelled xs) s.1))

pub ends_of-append : (state mid : State) (xs ys : List Pdu) → all_steps state xs ≡ Ok mid → ends_of state (xs ++ ys) ≡ ends_of state xs ++ ends_of mid ys
ends_of-append state mid xs ys e = ap end_states (effects-append state mid xs ys e) ∙ end_states-append (effects state (spelled xs)) (effects mid (spelled ys))
