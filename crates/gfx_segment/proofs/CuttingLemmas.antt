-- What was given is settled by the bytes: however they were cut, it is the same.
use Rattle.std.proofs.Common.{◌≡◌, ℕ, true, List, [], ◌∷◌, Option, Some, None, is_some, Result, Ok, Err, refl, sym, ap, ◌∙◌}
use Rattle.std.proofs.lemmas.Bool.{or_left, or_right}
use Rattle.gfx_base.specs.declared.refusal.Refusal.{Refusal}
use Rattle.gfx_base.specs.declared.answer.Cause.{Cause}
use Rattle.gfx_base.specs.declared.answer.Cause.TheVariants.{Refused, Memory}
use Rattle.gfx_base.specs.Results.{and_then}
use Rattle.gfx_segment.specs.Framing.{Front, Whole, Short, Bad, front, Splitter, holding, refused, answer_of, behind, next_of, next, after_next, is_short, is_drained, Given, IsDue, AnyCutting, Answers}
use Rattle.gfx_segment.proofs.FrontLemmas.{front-nil}
use Rattle.gfx_segment.proofs.GivenLemmas.{Reader, answer_none}

-- at these bytes no message is given, but this
pub record Ends (read : Reader) (bytes : List ℕ) (refusal : Option Refusal) : Type 0 where
  pub none : (p : List ℕ) → answer_of read (front bytes) ≡ Ok (Some p) → ⊥
  pub kept : (r : Refusal) → answer_of read (front bytes) ≡ Err r → refusal ≡ Some r
  pub open_end : answer_of read (front bytes) ≡ Ok None → refusal ≡ None

given_one : (read : Reader) (bytes m a p : List ℕ) → front bytes ≡ Whole m a → read m ≡ Ok p → answer_of read (front bytes) ≡ Ok (Some p)
unfolding answer_of and_then
given_one read bytes m a p whole reads = rw (whole, reads) refl

-- what was given and what is left
pub record Same (given others : List (List ℕ)) (left right : List ℕ) : Type 0 where
  pub messages : given ≡ others
  pub rest : left ≡ right

same_more : (p q : List ℕ) (ps qs : List (List ℕ)) (left right : List ℕ) → p ≡ q → Same ps qs left right → Same (p ∷ ps) (q ∷ qs) left right
same_more p q ps qs left right e same = record {
  messages = ap (λ z. z ∷ ps) e ∙ ap (λ z. q ∷ z) same.messages;
  rest = same.rest;
}

pub Given_settled : (read : Reader) (bytes other : List ℕ) (given others : List (List ℕ)) (left right : List ℕ) (r s : Option Refusal) → bytes ≡ other → Given read bytes given left → Given read other others right → Ends read left r → Ends read right s → Same given others left right
Given_settled read bytes other [] [] left right r s same e f ends stops = record { messages = refl; rest = sym e ∙ same ∙ f }
Given_settled read bytes other [] (q ∷ qs) left right r s same e (m, a, whole, reads, others) ends stops =
    absurd (ends.none q (given_one read left m a q (ap front (sym e ∙ same) ∙ whole) reads))
Given_settled read bytes other (p ∷ ps) [] left right r s same (m, a, whole, reads, others) f ends stops =
    absurd (stops.none p (given_one read right m a p (ap front (sym f ∙ sym same) ∙ whole) reads))
Given_settled read bytes other (p ∷ ps) (q ∷ qs) left right r s same (m, a, whole, reads, given) (n, b, first, gives, others) ends stops =
    let fronts : Whole m a ≡ Whole n b = sym whole ∙ ap front same ∙ first in
    let message : m ≡ n = cc in
    let after : a ≡ b = cc in
    let results : Ok p ≡ Ok q = sym reads ∙ ap read message ∙ gives in
    let content : p ≡ q = cc in
    same_more p q ps qs left right content (Given_settled read a b ps qs left right r s after given others ends stops)

short_front : (found : Front) → is_short found ≡ true → found ≡ Short
short_front (Whole m a) e = absurd cc
short_front Short e = refl
short_front Bad e = absurd cc

ends_at : (read : Reader) (refusal : Option Refusal) (rest left : List ℕ) → IsDue read left refusal rest → is_drained (record { rest = rest; refusal = refusal }) ≡ true → Ends read left refusal
unfolding is_drained answer_of
ends_at read None rest left due drained =
    let short : front left ≡ Short = ap front (sym due) ∙ short_front (front rest) drained in
    let now : answer_of read (front left) ≡ Ok None = ap (answer_of read) short in
    record { none = λ p e. absurd cc; kept = λ r e. absurd cc; open_end = λ e. refl }
ends_at read (Some r) rest left due drained = record {
  none = λ p e. absurd cc;
  kept = λ s e. (let same : Err r ≡ Err s = sym due ∙ e in let one : r ≡ s = cc in ap (λ z. Some z) one);
  open_end = λ e. absurd cc;
}

one_end : (read : Reader) (left : List ℕ) (r s : Option Refusal) (answer : Result (Option (List ℕ)) Refusal) → answer_of read (front left) ≡ answer → Ends read left r → Ends read left s → r ≡ s
one_end read left r s (Ok (Some p)) is ends stops = absurd (ends.none p is)
one_end read left r s (Ok None) is ends stops = ends.open_end is ∙ sym (stops.open_end is)
one_end read left r s (Err t) is ends stops = ends.kept t is ∙ sym (stops.kept t is)

pub any_cutting : AnyCutting
any_cutting read bytes given others one other stands stood drained dried =
    let ends = ends_at read one.refusal one.rest stands.left stands.due drained in
    let stops = ends_at read other.refusal other.rest stood.left stood.due dried in
    let same = Given_settled read bytes bytes given others stands.left stood.left one.refusal other.refusal refl stands.gave stood.gave ends stops in
    (same.messages, one_end read stands.left one.refusal other.refusal (answer_of read (front stands.left)) refl ends (rw same.rest stops))

-- when no message can be taken -----------------------------------------------------------------------------

pub drained_short : (held : Splitter) → front held.rest ≡ Short → is_drained held ≡ true
unfolding is_drained
drained_short held e = or_right _ _ (ap is_short e)

pub drained_refused : (held : Splitter) (r : Refusal) → held.refusal ≡ Some r → is_drained held ≡ true
unfolding is_drained
drained_refused held r e = or_left _ _ (ap is_some e)

-- nothing is fed yet
pub drained_nil : is_drained (holding []) ≡ true
drained_nil = drained_short (holding []) front-nil

none_at : (read : Reader) (refusal : Option Refusal) (rest : List ℕ) (new : Splitter) → let old : Splitter = record { rest = rest; refusal = refusal } in next read old ≡ Ok None → new ≡ after_next read old → is_drained new ≡ true
unfolding next_of behind
none_at read (Some r) rest new e is = absurd cc
none_at read None rest new e is =
    let short : front rest ≡ Short = answer_none read (front rest) e in
    let now : new ≡ holding rest = is ∙ ap (λ z. behind z (front rest) rest) e ∙ ap (λ z. behind (Ok None) z rest) short in
    rw now (drained_short (holding rest) short)

-- None was answered
pub drained_none : (read : Reader) (old new : Splitter) → next read old ≡ Ok None → new ≡ after_next read old → is_drained new ≡ true
drained_none read old new e is = none_at read old.refusal old.rest new e is

err_at : (read : Reader) (refusal : Option Refusal) (rest : List ℕ) (new : Splitter) (r : Refusal) → let old : Splitter = record { rest = rest; refusal = refusal } in next read old ≡ Err r → new ≡ after_next read old → new.refusal ≡ Some r
unfolding next_of behind
err_at read (Some s) rest new r e is = let same : s ≡ r = cc in ap (λ (z : Splitter). z.refusal) is ∙ ap (λ z. Some z) same
err_at read None rest new r e is =
    let now : new ≡ refused r = is ∙ ap (λ z. behind z (front rest) rest) e in
    ap (λ (z : Splitter). z.refusal) now

-- a refusal was answered, and is kept
pub kept_after : (read : Reader) (old new : Splitter) (r : Refusal) → next read old ≡ Err r → new ≡ after_next read old → new.refusal ≡ Some r
kept_after read old new r e is = err_at read old.refusal old.rest new r e is

-- after a call that answered None, and after one that answered a refusal
pub drained_on_none : (read : Reader) (result : Result (Option (List ℕ)) (Cause Refusal)) (old new : Splitter) → Answers result old new (next read old) (after_next read old) → result ≡ Ok None → is_drained new ≡ true
drained_on_none read (Ok None) old new h e = drained_none read old new h.0 h.1
drained_on_none read (Ok (Some p)) old new h e = absurd cc
drained_on_none read (Err fault) old new h e = absurd cc

pub drained_on_refused : (read : Reader) (result : Result (Option (List ℕ)) (Cause Refusal)) (old new : Splitter) (r : Refusal) → Answers result old new (next read old) (after_next read old) → result ≡ Err (Refused r) → is_drained new ≡ true
drained_on_refused read (Ok given) old new r h e = absurd cc
drained_on_refused read (Err Memory) old new r h e = let clash : Memory ≡ Refused r = cc in absurd cc
drained_on_refused read (Err (Refused s)) old new r h e = drained_refused new s (kept_after read old new s h.0 h.1)
