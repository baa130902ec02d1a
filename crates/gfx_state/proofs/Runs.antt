-- The run of a stream: in pieces, behind a refusal, and channel message by channel message.
use Rattle.std.proofs.Common.{◌≡◌, ℕ, ◌+◌, ◌≤◌, List, [], ◌∷◌, ◌++◌, length, take, drop, Option, Some, None, inl, inr, refl, sym, ap, ◌∙◌, append_assoc, arith, length-append, length-drop}
use Rattle.std.specs.Int.{w32}
use Rattle.std.proofs.lemmas.Bool.{cases_lt}
use Rattle.std.proofs.lemmas.List.{nil_from_length, append-nil, length-take-le}
use Rattle.std.proofs.lemmas.List.Sums.{fold-append}
use Rattle.gfx_base.proofs.FieldLemmas.{number_at-append}
use Rattle.gfx_base.specs.declared.refusal.Refusal.{Refusal}
use Rattle.gfx_base.specs.declared.refusal.Refusal.TheVariants.{ChannelLength}
use Rattle.gfx_pdu.specs.declared.pdu.Pdu.{Pdu}
use Rattle.gfx_base.specs.declared.TheConstants.{MOST_MESSAGE}
use Rattle.gfx_segment.specs.Framing.{Front, Whole, Short, Bad, front, payload}
use Rattle.gfx_segment.proofs.FrontLemmas.{front-append_whole, front-append_bad, length-front, front_whole, front_at, whole_at}
use Rattle.gfx_state.specs.Run.{Run, refuse, unless_refused, apply, close, opened, judge, eat, eats}

-- cut anywhere ------------------------------------------------------------------------------------

pub eats-append : (run : Run) (xs ys : List ℕ) → eats run (xs ++ ys) ≡ eats (eats run xs) ys
unfolding eats
eats-append run xs ys = fold-append eat run xs ys

pub eats-nil : (run : Run) → eats run [] ≡ run
unfolding eats
eats-nil run = refl

pub eats_more : (run : Run) (x : ℕ) (xs : List ℕ) → eats run (x ∷ xs) ≡ eats (eat run x) xs
unfolding eats
eats_more run x xs = refl

-- behind a refusal --------------------------------------------------------------------------------

pub stays : (run next : Run) (r : Refusal) → run.refusal ≡ Some r → unless_refused run next ≡ run
stays run next r e = rw e refl

pub eat_refused : (run : Run) (r : Refusal) (x : ℕ) → run.refusal ≡ Some r → eat run x ≡ run
unfolding eat
eat_refused run r x e = stays run _ r e

pub eats_refused : (run : Run) (r : Refusal) (xs : List ℕ) → run.refusal ≡ Some r → eats run xs ≡ run
eats_refused run r [] e = eats-nil run
eats_refused run r (x ∷ xs) e =
    let same = eat_refused run r x e in
    eats_more run x xs ∙ ap (λ z. eats z xs) same ∙ eats_refused run r xs e

pub apply_refused : (run : Run) (r : Refusal) (message : Pdu × ℕ) → run.refusal ≡ Some r → apply run message ≡ run
unfolding apply
apply_refused run r message e = stays run _ r e

pub close_refused : (run : Run) (r : Refusal) (due : Option Refusal) → run.refusal ≡ Some r → close run due ≡ run
unfolding close
close_refused run r None e = refl
close_refused run r (Some s) e = stays run _ r e

-- one byte ----------------------------------------------------------------------------------------

pub goes_on : (run next : Run) → run.refusal ≡ None → unless_refused run next ≡ next
goes_on run next e = rw e refl

pub eat_judges : (run : Run) (x : ℕ) (f : Front) → run.refusal ≡ None → front (run.rest ++ x ∷ []) ≡ f → eat run x ≡ judge run (run.rest ++ x ∷ []) f
unfolding eat
eat_judges run x f e found = goes_on run _ e ∙ ap (λ z. judge run (run.rest ++ x ∷ []) z) found

pub eat_short : (run : Run) (x : ℕ) → run.refusal ≡ None → front (run.rest ++ x ∷ []) ≡ Short → eat run x ≡ record run { rest = run.rest ++ x ∷ [] }
unfolding judge
eat_short run x e found = eat_judges run x Short e found

pub eat_bad : (run : Run) (x : ℕ) → run.refusal ≡ None → front (run.rest ++ x ∷ []) ≡ Bad → eat run x ≡ refuse run ChannelLength
unfolding judge
eat_bad run x e found = eat_judges run x Bad e found

pub eat_whole : (run : Run) (x : ℕ) (m a : List ℕ) → run.refusal ≡ None → front (run.rest ++ x ∷ []) ≡ Whole m a → eat run x ≡ opened (record run { rest = a }) (payload m)
unfolding judge
eat_whole run x m a e found = eat_judges run x (Whole m a) e found

-- the last byte of a channel message leaves nothing after it
pub front_ends : (bytes m a : List ℕ) (x : ℕ) → front bytes ≡ Short → front (bytes ++ x ∷ []) ≡ Whole m a → a ≡ []
front_ends bytes m a x short whole =
    let f = front_whole (bytes ++ x ∷ []) m a whole in
    let message : length (take f.size (drop 4 (bytes ++ x ∷ []))) ≡ length m = ap length f.cut.message in
    let within : f.size ≤ length (drop 4 (bytes ++ x ∷ [])) = f.cut.within in
    let size : length m ≡ f.size = sym message ∙ length-take-le f.size (drop 4 (bytes ++ x ∷ [])) within in
    let all = length-front (bytes ++ x ∷ []) m a whole in
    elim (cases_lt (length bytes) (4 + f.size)) [
      | inl past ↦ nil_from_length a (omega (arith, length-append bytes (x ∷ [])))
      | inr enough ↦
          let long : 4 ≤ length bytes = omega arith in
          let spells = sym (number_at-append w32 bytes (x ∷ []) 0 long) ∙ f.begins.spells in
          let fits : f.size ≤ length (drop 4 bytes) = omega (arith, length-drop 4 bytes) in
          let cut = front_at f.size bytes (record { long = long; spells = spells }) in
          let there = whole_at MOST_MESSAGE f.size (drop 4 bytes) f.cut.fits fits in
          absurd cc
    ]

-- many bytes --------------------------------------------------------------------------------------

pub regrouped : (xs : List ℕ) (x : ℕ) (ys : List ℕ) → (xs ++ x ∷ []) ++ ys ≡ xs ++ x ∷ ys
regrouped xs x ys = append_assoc xs (x ∷ []) ys

-- the beginning of too few bytes is too few
pub front_fewer : (bytes more : List ℕ) → front (bytes ++ more) ≡ Short → front bytes ≡ Short
front_fewer bytes more found =
    elim (front bytes) as (λ f. front bytes ≡ f → f ≡ Short) [
      | Short ↦ λ here. refl
      | Bad ↦ λ here. let bad = front-append_bad bytes more here in absurd cc
      | Whole m a ↦ λ here. let whole = front-append_whole bytes more m a here in absurd cc
    ] refl

-- less than a channel message is kept
pub eats_short : (run : Run) (xs : List ℕ) → run.refusal ≡ None → front (run.rest ++ xs) ≡ Short → eats run xs ≡ record run { rest = run.rest ++ xs }
eats_short run [] e found = eats-nil run ∙ ap (λ z. record run { rest = z }) (sym (append-nil run.rest))
eats_short run (x ∷ xs) e found =
    let whole = ap front (regrouped run.rest x xs) ∙ found in
    let here = front_fewer (run.rest ++ x ∷ []) xs whole in
    eats_more run x xs ∙ ap (λ z. eats z xs) (eat_short run x e here)
    ∙ eats_short (record run { rest = run.rest ++ x ∷ [] }) xs e whole
    ∙ ap (λ z. record run { rest = z }) (regrouped run.rest x xs)

-- a length that no message has ends the run
pub eats_bad : (run : Run) (xs : List ℕ) → run.refusal ≡ None → front run.rest ≡ Short → front (run.rest ++ xs) ≡ Bad → eats run xs ≡ refuse run ChannelLength
eats_bad run [] e short found =
    let same = ap front (append-nil run.rest) in absurd cc
eats_bad run (x ∷ xs) e short found =
    let all = ap front (regrouped run.rest x xs) ∙ found in
    let later = λ (here : front (run.rest ++ x ∷ []) ≡ Short). eats_bad (record run { rest = run.rest ++ x ∷ [] }) xs e here all in
    elim (front (run.rest ++ x ∷ [])) as (λ f. front (run.rest ++ x ∷ []) ≡ f → eats run (x ∷ xs) ≡ refuse run ChannelLength) [
      | Short ↦ λ here. eats_more run x xs ∙ ap (λ z. eats z xs) (eat_short run x e here) ∙ later here
      | Bad ↦ λ here. eats_more run x xs ∙ ap (λ z. eats z xs) (eat_bad run x e here) ∙ eats_refused (refuse run ChannelLength) ChannelLength xs refl
      | Whole m a ↦ λ here. let whole = front-append_whole (run.rest ++ x ∷ []) xs m a here in absurd cc
    ] refl

-- a whole channel message is opened, and the bytes after it go on from there
pub eats_whole : (run : Run) (xs m a : List ℕ) → run.refusal ≡ None → front run.rest ≡ Short → front (run.rest ++ xs) ≡ Whole m a → eats run xs ≡ eats (opened (record run { rest = [] }) (payload m)) a
eats_whole run [] m a e short found =
    let same = ap front (append-nil run.rest) in absurd cc
eats_whole run (x ∷ xs) m a e short found =
    let all = ap front (regrouped run.rest x xs) ∙ found in
    let later = λ (here : front (run.rest ++ x ∷ []) ≡ Short). eats_whole (record run { rest = run.rest ++ x ∷ [] }) xs m a e here all in
    elim (front (run.rest ++ x ∷ [])) as (λ f. front (run.rest ++ x ∷ []) ≡ f → eats run (x ∷ xs) ≡ eats (opened (record run { rest = [] }) (payload m)) a) [
      | Short ↦ λ here. eats_more run x xs ∙ ap (λ z. eats z xs) (eat_short run x e here) ∙ later here
      | Bad ↦ λ here. let bad = front-append_bad (run.rest ++ x ∷ []) xs here in absurd cc
      | Whole m' a' ↦ λ here.
          let none = front_ends run.rest m' a' x short here in
          let whole = front-append_whole (run.rest ++ x ∷ []) xs m' a' here in
          let message : m' ≡ m = cc in
          let after : xs ≡ a = ap (λ z. z ++ xs) (sym none) ∙ (let joined : a' ++ xs ≡ a = cc in joined) in
          eats_more run x xs ∙ ap (λ z. eats z xs) (eat_whole run x m' a' e here)
          ∙ ap (λ z. eats (opened (record run { rest = z }) (payload m')) xs) none
          ∙ ap (λ z. eats (opened (record run { rest = [] }) (payload z)) xs) message
          ∙ ap (λ z. eats (opened (record run { rest = [] }) (payload m)) z) after
    ] refl
