-- What is found in bytes, and in them with more behind.
use Rattle.std.proofs.Common.{◌≡◌, ℕ, List, [], ◌∷◌, ◌++◌, length, take, drop, Some, None, is_some, Err, refl, sym, ap, ◌∙◌, subst, append_assoc}
use Rattle.std.proofs.lemmas.Bool.{cond-true, cond-false}
use Rattle.std.proofs.lemmas.Grind.{flat_map-append}
use Rattle.std.proofs.lemmas.List.{append-nil, take-append-drop}
use Rattle.std.specs.List.{flat_map}
use Rattle.gfx_base.specs.declared.refusal.Refusal.{Refusal}
use Rattle.gfx_base.specs.declared.refusal.Refusal.TheVariants.{ChannelLength}
use Rattle.gfx_dvc.specs.Cutting.{recorded}
use Rattle.gfx_dvc.specs.Joining.{Joiner, fresh, refused, step, turn_of, turn, messages_of, joiner_after}
use Rattle.gfx_dvc.proofs.PassedLemmas.{passed-kept, step-refused}
use Rattle.gfx_segment.specs.Framing.{prefixed}
use Rattle.gfx_fragments.specs.Cut.{Next, One, Few, Wrong, next_message, next_fragment, Cut, cut_of, cut}
use Rattle.gfx_fragments.specs.Found.{Found, first_of, wrong_in, fragments_text, fragmented_of, fragmented, joined_text, passed_by, joined_of, joined}
use Rattle.gfx_fragments.proofs.CutLemmas.{cut-append, cut-nil, stays-wrong}
use Rattle.gfx_fragments.proofs.FrontLemmas.{messages_lawful, fragments_lawful}

-- this is a front of that text
pub record IsTextFront (front text : List ℕ) : Type 0 where
  pub rest : List ℕ
  pub cut : text ≡ front ++ rest

-- what was found stays, with its refusal
pub record Stays (old new : Found) (r : Refusal) : Type 0 where
  pub text : new.text ≡ old.text
  pub count : new.count ≡ old.count
  pub refusal : new.refusal ≡ Some r

-- what is found in bytes by a command: more bytes take nothing back
pub record IsFinder (find : List ℕ → Found) : Type 0 where
  pub silent : (find []).text ≡ []
  pub fine_first : (find []).refusal ≡ None
  pub grows : (bytes more : List ℕ) → IsTextFront (find bytes).text (find (bytes ++ more)).text
  pub keeps : (bytes more : List ℕ) (r : Refusal) → (find bytes).refusal ≡ Some r → Stays (find bytes) (find (bytes ++ more)) r

-- where nothing is refused, no front is
pub fronts_fine : (find : List ℕ → Found) → IsFinder find → (bytes : List ℕ) (n : ℕ) → (find bytes).refusal ≡ None → (find (take n bytes)).refusal ≡ None
fronts_fine find law bytes n none =
    elim ((find (take n bytes)).refusal) as (λ q. (find (take n bytes)).refusal ≡ q → q ≡ None) [
      | None ↦ λ e. refl
      | Some r ↦ λ e.
          let kept = law.keeps (take n bytes) (drop n bytes) r e in
          let clash : None ≡ Some r = sym none ∙ ap (λ z. (find z).refusal) (sym (take-append-drop n bytes)) ∙ kept.refusal in absurd cc
    ] refl

-- a wrong length is the one that is refused by itself
pub wrong-refused : (found : Next) (r : Refusal) → wrong_in found ≡ Some r → (found ≡ Wrong) × (r ≡ ChannelLength)
wrong-refused (One item after) r e = absurd cc
wrong-refused Few r e = absurd cc
wrong-refused Wrong r e = (refl, let same : ChannelLength ≡ r = cc in sym same)

-- `fragment` -------------------------------------------------------------------------------------------------

pub fragmented-is : (bytes : List ℕ) (c : Cut) → cut next_message bytes ≡ c → fragmented bytes ≡ fragmented_of c
unfolding fragmented
fragmented-is bytes c e = ap fragmented_of e

fragmented-grows : (bytes more : List ℕ) → IsTextFront (fragmented bytes).text (fragmented (bytes ++ more)).text
unfolding fragmented
fragmented-grows bytes more =
    let old = cut next_message bytes in
    let new = cut next_message (old.rest ++ more) in
    record {
      rest = fragments_text new.items;
      cut = ap (λ (z : Cut). fragments_text z.items) (cut-append next_message messages_lawful bytes more) ∙ flat_map-append recorded old.items new.items;
    }

fragmented-keeps : (bytes more : List ℕ) (r : Refusal) → (fragmented bytes).refusal ≡ Some r → Stays (fragmented bytes) (fragmented (bytes ++ more)) r
unfolding fragmented
fragmented-keeps bytes more r e =
    let w = wrong-refused (next_message (cut next_message bytes).rest) r e in
    let s = stays-wrong next_message messages_lawful bytes more w.0 in
    record {
      text = ap fragments_text s.items_are;
      count = ap length s.items_are;
      refusal = ap wrong_in s.wrong ∙ ap (λ z. Some z) (sym w.1);
    }

pub fragments_found : IsFinder fragmented
fragments_found = record {
  silent = ap (λ (z : Found). z.text) (fragmented-is [] (cut_of [] []) (cut-nil next_message messages_lawful));
  fine_first = ap (λ (z : Found). z.refusal) (fragmented-is [] (cut_of [] []) (cut-nil next_message messages_lawful)) ∙ ap wrong_in messages_lawful.none;
  grows = fragmented-grows;
  keeps = fragmented-keeps;
}

-- `join` ----------------------------------------------------------------------------------------------------

-- fragments one after another -----------------------------------------------------------------------------

pub messages-append : (joiner : Joiner) (xs ys : List (List ℕ)) → messages_of joiner (xs ++ ys) ≡ messages_of joiner xs ++ messages_of (joiner_after joiner xs) ys
messages-append joiner [] ys = refl
messages-append joiner (x ∷ xs) ys =
    ap (λ z. (turn joiner x).0 ++ z) (messages-append (turn joiner x).1 xs ys)
    ∙ sym (append_assoc (turn joiner x).0 (messages_of (turn joiner x).1 xs) (messages_of (joiner_after (turn joiner x).1 xs) ys))

pub joiner-append : (joiner : Joiner) (xs ys : List (List ℕ)) → joiner_after joiner (xs ++ ys) ≡ joiner_after (joiner_after joiner xs) ys
joiner-append joiner [] ys = refl
joiner-append joiner (x ∷ xs) ys = joiner-append (turn joiner x).1 xs ys

-- a joiner that keeps a refusal, whatever it is given
turn-refused : (joiner : Joiner) (f : List ℕ) (r : Refusal) → joiner.refusal ≡ Some r → turn joiner f ≡ ([], refused r)
unfolding turn_of
turn-refused joiner f r e = ap turn_of (step-refused joiner f r (passed-kept joiner f r e))

-- a turn that is refused
pub turn-not : (joiner : Joiner) (f : List ℕ) (r : Refusal) → step joiner f ≡ Err r → turn joiner f ≡ ([], refused r)
unfolding turn_of
turn-not joiner f r e = ap turn_of e

pub record IsOver (joiner : Joiner) (fragments : List (List ℕ)) (r : Refusal) : Type 0 where
  pub messages : messages_of joiner fragments ≡ []
  pub passed : passed_by joiner fragments ≡ []
  pub kept : (joiner_after joiner fragments).refusal ≡ Some r

-- no more passes behind a turn that is refused
passed-none : (joiner : Joiner) (f : List ℕ) (others : List (List ℕ)) (r : Refusal) → (turn joiner f).1.refusal ≡ Some r → passed_by joiner (f ∷ others) ≡ []
passed-none joiner f others r e = cond-true _ _ _ (ap is_some e)

passed-one : (joiner : Joiner) (f : List ℕ) (others : List (List ℕ)) → (turn joiner f).1.refusal ≡ None → passed_by joiner (f ∷ others) ≡ f ∷ passed_by (turn joiner f).1 others
passed-one joiner f others e = cond-false _ _ _ (ap is_some e)

pub over : (joiner : Joiner) (fragments : List (List ℕ)) (r : Refusal) → joiner.refusal ≡ Some r → IsOver joiner fragments r
over joiner [] r e = record { messages = refl; passed = refl; kept = e }
over joiner (f ∷ others) r e =
    let now = turn-refused joiner f r e in
    let kept : (turn joiner f).1.refusal ≡ Some r = ap (λ (z : List (List ℕ) × Joiner). z.1.refusal) now in
    let rest = over (turn joiner f).1 others r kept in
    record {
      messages = ap (λ (z : List (List ℕ) × Joiner). z.0 ++ messages_of (turn joiner f).1 others) now ∙ rest.messages;
      passed = passed-none joiner f others r kept;
      kept = rest.kept;
    }

-- what fragments leave: no refusal, and all of them passed; or a refusal, and none passes behind them
all-passed : (joiner : Joiner) (fragments others : List (List ℕ)) → (joiner_after joiner fragments).refusal ≡ None → passed_by joiner (fragments ++ others) ≡ fragments ++ passed_by (joiner_after joiner fragments) others
all-passed joiner [] others none = refl
all-passed joiner (f ∷ fragments) others none =
    elim ((turn joiner f).1.refusal) as (λ q. (turn joiner f).1.refusal ≡ q → passed_by joiner (f ∷ (fragments ++ others)) ≡ f ∷ (fragments ++ passed_by (joiner_after (turn joiner f).1 fragments) others)) [
      | None ↦ λ e. passed-one joiner f (fragments ++ others) e ∙ ap (λ z. f ∷ z) (all-passed (turn joiner f).1 fragments others none)
      | Some r ↦ λ e. let clash : None ≡ Some r = sym none ∙ (over (turn joiner f).1 fragments r e).kept in absurd cc
    ] refl

pub passed-all : (joiner : Joiner) (fragments : List (List ℕ)) → (joiner_after joiner fragments).refusal ≡ None → passed_by joiner fragments ≡ fragments
passed-all joiner fragments none = ap (passed_by joiner) (sym (append-nil fragments)) ∙ all-passed joiner fragments [] none ∙ append-nil fragments

-- the next one is refused
pub passed-to : (joiner : Joiner) (fragments : List (List ℕ)) (f : List ℕ) (others : List (List ℕ)) (r : Refusal) → (joiner_after joiner fragments).refusal ≡ None → (turn (joiner_after joiner fragments) f).1.refusal ≡ Some r
    → passed_by joiner (fragments ++ f ∷ others) ≡ fragments
passed-to joiner fragments f others r none e =
    all-passed joiner fragments (f ∷ others) none ∙ ap (λ z. fragments ++ z) (passed-none (joiner_after joiner fragments) f others r e) ∙ append-nil fragments

no-more : (joiner : Joiner) (fragments others : List (List ℕ)) (r : Refusal) → (joiner_after joiner fragments).refusal ≡ Some r → passed_by joiner (fragments ++ others) ≡ passed_by joiner fragments
no-more joiner [] others r e = (over joiner others r e).passed
no-more joiner (f ∷ fragments) others r e =
    elim ((turn joiner f).1.refusal) as (λ q. (turn joiner f).1.refusal ≡ q → passed_by joiner (f ∷ (fragments ++ others)) ≡ passed_by joiner (f ∷ fragments)) [
      | None ↦ λ is.
          passed-one joiner f (fragments ++ others) is
          ∙ ap (λ z. f ∷ z) (no-more (turn joiner f).1 fragments others r e)
          ∙ sym (passed-one joiner f fragments is)
      | Some s ↦ λ is. passed-none joiner f (fragments ++ others) s is ∙ sym (passed-none joiner f fragments s is)
    ] refl

-- what is written of fragments, and of them with others behind
pub joined-append : (xs ys : List (List ℕ)) → joined_text (xs ++ ys) ≡ joined_text xs ++ flat_map prefixed (messages_of (joiner_after fresh xs) ys)
joined-append xs ys = ap (flat_map prefixed) (messages-append fresh xs ys) ∙ flat_map-append prefixed (messages_of fresh xs) (messages_of (joiner_after fresh xs) ys)

-- what is found --------------------------------------------------------------------------------------------

pub joined-is : (bytes : List ℕ) (c : Cut) → cut next_fragment bytes ≡ c → joined bytes ≡ joined_of c
unfolding joined
joined-is bytes c e = ap joined_of e

joined-grows : (bytes more : List ℕ) → IsTextFront (joined bytes).text (joined (bytes ++ more)).text
unfolding joined
joined-grows bytes more =
    let old = cut next_fragment bytes in
    let new = cut next_fragment (old.rest ++ more) in
    record {
      rest = flat_map prefixed (messages_of (joiner_after fresh old.items) new.items);
      cut = ap (λ (z : Cut). joined_text z.items) (cut-append next_fragment fragments_lawful bytes more) ∙ joined-append old.items new.items;
    }

-- where a joiner keeps a refusal
kept-first : (items : List (List ℕ)) (rest : List ℕ) (s : Refusal) → (joiner_after fresh items).refusal ≡ Some s → (joined_of (cut_of items rest)).refusal ≡ Some s
kept-first items rest s e = ap (λ z. first_of z (wrong_in (next_fragment rest))) e

joiner-keeps : (old new : List (List ℕ)) (rest last : List ℕ) (s : Refusal) → (joiner_after fresh old).refusal ≡ Some s → Stays (joined_of (cut_of old rest)) (joined_of (cut_of (old ++ new) last)) s
joiner-keeps old new rest last s e =
    let end = over (joiner_after fresh old) new s e in
    record {
      text = joined-append old new ∙ ap (λ z. joined_text old ++ flat_map prefixed z) end.messages ∙ append-nil (joined_text old);
      count = ap length (no-more fresh old new s e);
      refusal = kept-first (old ++ new) last s (ap (λ (z : Joiner). z.refusal) (joiner-append fresh old new) ∙ end.kept);
    }

joined-kept : (bytes more : List ℕ) (r s : Refusal) → (joiner_after fresh (cut next_fragment bytes).items).refusal ≡ Some s → (joined bytes).refusal ≡ Some r → Stays (joined bytes) (joined (bytes ++ more)) r
unfolding joined
joined-kept bytes more r s kept e =
    let old = cut next_fragment bytes in
    let new = cut next_fragment (old.rest ++ more) in
    let first : Some s ≡ Some r = sym (kept-first old.items old.rest s kept) ∙ e in
    let same : s ≡ r = cc in
    subst (λ (z : Cut). Stays (joined_of old) (joined_of z) r) (sym (cut-append next_fragment fragments_lawful bytes more))
    (subst (Stays (joined_of old) (joined_of (cut_of (old.items ++ new.items) new.rest))) same (joiner-keeps old.items new.items old.rest new.rest s kept))

joined-wrong : (bytes more : List ℕ) (r : Refusal) → (joiner_after fresh (cut next_fragment bytes).items).refusal ≡ None → (joined bytes).refusal ≡ Some r → Stays (joined bytes) (joined (bytes ++ more)) r
unfolding joined
joined-wrong bytes more r none e =
    let old = cut next_fragment bytes in
    let w = wrong-refused (next_fragment old.rest) r (sym (ap (λ z. first_of z (wrong_in (next_fragment old.rest))) none) ∙ e) in
    let s = stays-wrong next_fragment fragments_lawful bytes more w.0 in
    let joiner = ap (λ z. (joiner_after fresh z).refusal) s.items_are ∙ none in
    record {
      text = ap joined_text s.items_are;
      count = ap (λ z. length (passed_by fresh z)) s.items_are;
      refusal = ap (λ z. first_of z (wrong_in (next_fragment (cut next_fragment (bytes ++ more)).rest))) joiner ∙ ap wrong_in s.wrong ∙ ap (λ z. Some z) (sym w.1);
    }

joined-keeps : (bytes more : List ℕ) (r : Refusal) → (joined bytes).refusal ≡ Some r → Stays (joined bytes) (joined (bytes ++ more)) r
joined-keeps bytes more r e =
    elim ((joiner_after fresh (cut next_fragment bytes).items).refusal) as (λ q. (joiner_after fresh (cut next_fragment bytes).items).refusal ≡ q → Stays (joined bytes) (joined (bytes ++ more)) r) [
      | None ↦ λ none. joined-wrong bytes more r none e
      | Some s ↦ λ kept. joined-kept bytes more r s kept e
    ] refl

pub joins_found : IsFinder joined
joins_found = record {
  silent = ap (λ (z : Found). z.text) (joined-is [] (cut_of [] []) (cut-nil next_fragment fragments_lawful));
  fine_first = ap (λ (z : Found). z.refusal) (joined-is [] (cut_of [] []) (cut-nil next_fragment fragments_lawful)) ∙ ap wrong_in fragments_lawful.none;
  grows = joined-grows;
  keeps = joined-keeps;
}
