-- What a run over a list gave so far, and what is left of it.
use Rattle.std.proofs.Common.{◌≡◌, ℕ, ◌+◌, ◌<◌, ◌≤◌, Bool, true, false, ◌&&◌, List, [], ◌∷◌, ◌++◌, map, length, drop, get_or, Result, Ok, Err, refl, sym, ap, ◌∙◌, append_assoc, append-nil}
use Rattle.std.proofs.lemmas.List.{drop_more, drop_all}
use Rattle.std.specs.List.{list_all}
use Rattle.toml.specs.Data.{Data}
use Rattle.gfx_base.specs.Results.{and_then, each}
use Rattle.gfx_base.proofs.ResultLemmas.{and_then_at, and_then_refused}
use Rattle.gfx_script.specs.declared.error.ScriptKind.{ScriptKind}
use Rattle.gfx_script.specs.declared.step.Step.{Step}
use Rattle.gfx_script.specs.Checks.{Held}
use Rattle.gfx_script_text.specs.Text.{Wrong, at_step, next_step, steps_of}

-- these first, and then what a run gives
abbrev pub after_these : {A E : Type 0} → List A → Result (List A) E → Result (List A) E
after_these done (Ok rest) = Ok (done ++ rest)
after_these done (Err e) = Err e

-- one more of what is done
pub after_one : {A E : Type 0} (done : List A) (x : A) (r : Result (List A) E) → after_these done (and_then r (λ xs. Ok (x ∷ xs))) ≡ after_these (done ++ x ∷ []) r
unfolding and_then
after_one done x (Ok rest) = ap Ok (sym (append_assoc done (x ∷ []) rest))
after_one done x (Err e) = refl

-- what stands from a place on
pub from_place : {V : Type 0} (vs : List V) (at : ℕ) (v : V) → at < length vs → v ≡ get_or vs at v → drop at vs ≡ v ∷ drop (at + 1) vs
from_place vs at v lt is = drop_more vs at v lt ∙ ap (λ w. w ∷ drop (at + 1) vs) (sym is)

-- a test of each item
module _ {V D : Type 0} (test : D → Bool) (view : V → D) (vs : List V) (at : ℕ) where
  pub all-next : (v : V) (due : Bool) → at < length vs → v ≡ get_or vs at v → test (view v) ≡ true
      → due ≡ list_all test (map view (drop at vs)) → due ≡ list_all test (map view (drop (at + 1) vs))
  all-next v due lt is passes so_far =
      so_far ∙ ap (λ ws. list_all test (map view ws)) (from_place vs at v lt is) ∙ ap (λ b. b && list_all test (map view (drop (at + 1) vs))) passes

  pub all-stop : (v : V) (due : Bool) → at < length vs → v ≡ get_or vs at v → test (view v) ≡ false
      → due ≡ list_all test (map view (drop at vs)) → false ≡ due
  all-stop v due lt is fails so_far =
      sym (so_far ∙ ap (λ ws. list_all test (map view ws)) (from_place vs at v lt is) ∙ ap (λ b. b && list_all test (map view (drop (at + 1) vs))) fails)

  pub all-end : (due : Bool) → length vs ≤ at → due ≡ list_all test (map view (drop at vs)) → true ≡ due
  all-end due past so_far = sym (so_far ∙ ap (λ ws. list_all test (map view ws)) (drop_all at vs past))

module _ {D A E : Type 0} (f : D → Result A E) where
  each-found : (done : List A) (d : D) (ds : List D) (x : A) → f d ≡ Ok x → after_these done (each f (d ∷ ds)) ≡ after_these (done ++ x ∷ []) (each f ds)
  unfolding each
  each-found done d ds x e = ap (after_these done) (and_then_at (f d) x _ e) ∙ after_one done x (each f ds)

  each-none : (done : List A) → after_these done (each f []) ≡ Ok done
  unfolding each
  each-none done = ap Ok (append-nil done)

  each-refused : (done : List A) (d : D) (ds : List D) (r : E) → f d ≡ Err r → after_these done (each f (d ∷ ds)) ≡ Err r
  unfolding each
  each-refused done d ds r e = ap (after_these done) (and_then_refused (f d) r _ e)

  module _ {V : Type 0} (view : V → D) where
    pub each-next : (vs : List V) (at : ℕ) (v : V) (done : List A) (x : A) (due : Result (List A) E)
        → at < length vs → v ≡ get_or vs at v → f (view v) ≡ Ok x
        → due ≡ after_these done (each f (map view (drop at vs))) → due ≡ after_these (done ++ x ∷ []) (each f (map view (drop (at + 1) vs)))
    each-next vs at v done x due lt is e so_far =
        so_far ∙ ap (λ ws. after_these done (each f (map view ws))) (from_place vs at v lt is) ∙ each-found done (view v) (map view (drop (at + 1) vs)) x e

    pub each-end : (vs : List V) (at : ℕ) (done : List A) (due : Result (List A) E) → length vs ≤ at
        → due ≡ after_these done (each f (map view (drop at vs))) → due ≡ Ok done
    each-end vs at done due past so_far = so_far ∙ ap (λ ws. after_these done (each f (map view ws))) (drop_all at vs past) ∙ each-none done

    pub each-stop : (vs : List V) (at : ℕ) (v : V) (done : List A) (r : E) (due : Result (List A) E)
        → at < length vs → v ≡ get_or vs at v → f (view v) ≡ Err r
        → due ≡ after_these done (each f (map view (drop at vs))) → due ≡ Err r
    each-stop vs at v done r due lt is e so_far =
        so_far ∙ ap (λ ws. after_these done (each f (map view ws))) (from_place vs at v lt is) ∙ each-refused done (view v) (map view (drop (at + 1) vs)) r e

steps-found : (names : List (List ℕ)) (number : ℕ) (held after : Held) (done : List Step) (d : Data) (ds : List Data) (step : Step) → next_step names held d ≡ Ok (step, after)
    → after_these done (steps_of names number held (d ∷ ds)) ≡ after_these (done ++ step ∷ []) (steps_of names (number + 1) after ds)
unfolding steps_of
steps-found names number held after done d ds step e =
    ap (after_these done) (and_then_at (at_step number (next_step names held d)) (step, after) _ (ap (at_step number) e))
    ∙ after_one done step (steps_of names (number + 1) after ds)

steps-none : (names : List (List ℕ)) (number : ℕ) (held : Held) (done : List Step) → after_these done (steps_of names number held []) ≡ Ok done
unfolding steps_of
steps-none names number held done = ap Ok (append-nil done)

steps-refused : (names : List (List ℕ)) (number : ℕ) (held : Held) (done : List Step) (d : Data) (ds : List Data) (kind : ScriptKind) → next_step names held d ≡ Err kind
    → after_these done (steps_of names number held (d ∷ ds)) ≡ Err record { step = number; kind = kind }
unfolding steps_of
steps-refused names number held done d ds kind e =
    ap (after_these done) (and_then_refused (at_step number (next_step names held d)) record { step = number; kind = kind } _ (ap (at_step number) e))

module _ {V : Type 0} (view : V → Data) (names : List (List ℕ)) where
  pub steps-next : (vs : List V) (at : ℕ) (v : V) (number : ℕ) (held after : Held) (done : List Step) (step : Step) (due : Result (List Step) Wrong)
      → at < length vs → v ≡ get_or vs at v → next_step names held (view v) ≡ Ok (step, after)
      → due ≡ after_these done (steps_of names number held (map view (drop at vs))) → due ≡ after_these (done ++ step ∷ []) (steps_of names (number + 1) after (map view (drop (at + 1) vs)))
  steps-next vs at v number held after done step due lt is e so_far =
      so_far ∙ ap (λ ws. after_these done (steps_of names number held (map view ws))) (from_place vs at v lt is)
      ∙ steps-found names number held after done (view v) (map view (drop (at + 1) vs)) step e

  pub steps-end : (vs : List V) (at : ℕ) (number : ℕ) (held : Held) (done : List Step) (due : Result (List Step) Wrong) → length vs ≤ at
      → due ≡ after_these done (steps_of names number held (map view (drop at vs))) → due ≡ Ok done
  steps-end vs at number held done due past so_far =
      so_far ∙ ap (λ ws. after_these done (steps_of names number held (map view ws))) (drop_all at vs past) ∙ steps-none names number held done

  pub steps-stop : (vs : List V) (at : ℕ) (v : V) (number : ℕ) (held : Held) (done : List Step) (kind : ScriptKind) (due : Result (List Step) Wrong)
      → at < length vs → v ≡ get_or vs at v → next_step names held (view v) ≡ Err kind
      → due ≡ after_these done (steps_of names number held (map view (drop at vs))) → due ≡ Err record { step = number; kind = kind }
  steps-stop vs at v number held done kind due lt is e so_far =
      so_far ∙ ap (λ ws. after_these done (steps_of names number held (map view ws))) (from_place vs at v lt is)
      ∙ steps-refused names number held done (view v) (map view (drop (at + 1) vs)) kind e
