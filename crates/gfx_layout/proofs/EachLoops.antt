-- A loop that reads items, each by a reader of its own: what is due is what was read, and then the others.
use Rattle.std.proofs.Common.{◌≡◌, ℕ, suc, ◌+◌, ◌-◌, ◌≤◌, ◌<◌, List, [], ◌∷◌, ◌++◌, Ok, Err, refl, sym, ap, ◌∙◌, append_assoc, arith}
use Rattle.std.proofs.lemmas.List.{append-nil}
use Rattle.gfx_base.specs.Results.{and_then}
use Rattle.gfx_base.specs.declared.answer.Cause.{Cause}
use Rattle.gfx_base.specs.declared.answer.Cause.TheVariants.{Refused, Memory}
use Rattle.gfx_base.proofs.ResultLemmas.{and_then_at, and_then_refused}
use Rattle.gfx_layout.specs.declared.stop.Stop.{Stop}
use Rattle.gfx_layout.specs.Reading.{Taken, take_each}

-- these items in front of others
abbrev pub in_front : {T : Type 0} → List T → List T × List ℕ → Taken (List T)
in_front items others = Ok (items ++ others.0, others.1)

-- a call failed as is due: what `Gives` says of an error
abbrev pub Fails : {X : Type 0} → Cause Stop → Taken X → Type 0
Fails Memory due = Unit {0}
Fails (Refused stop) due = due ≡ Err stop

module _ {T : Type 0} (reader : List ℕ → Taken T) where
  -- items that were read, in front of those that so many more readings give
  abbrev pub with_others : List T → ℕ → List ℕ → Taken (List T)
  with_others items left rest = and_then (take_each reader left rest) (in_front items)

  again : (taken : Taken (List T)) → and_then taken (λ t. Ok (t.0, t.1)) ≡ taken
  unfolding and_then
  again (Ok t) = refl
  again (Err stop) = refl

  -- before the first
  pub each-start : (count : ℕ) (text : List ℕ) → with_others [] (count - 0) text ≡ take_each reader count text
  each-start count text =
      let all : count - 0 ≡ count = omega arith in
      ap (λ n. with_others [] n text) all ∙ again (take_each reader count text)

  one_more : (left : ℕ) (rest after : List ℕ) (x : T) → reader rest ≡ Ok (x, after) → take_each reader (suc left) rest ≡ and_then (take_each reader left after) (in_front (x ∷ []))
  unfolding take_each
  one_more left rest after x e = and_then_at (reader rest) (x, after) (λ first. and_then (take_each reader left first.1) (λ t. Ok (first.0 ∷ t.0, t.1))) e

  shifted : (items : List T) (x : T) (taken : Taken (List T)) → and_then (and_then taken (in_front (x ∷ []))) (in_front items) ≡ and_then taken (in_front (items ++ x ∷ []))
  unfolding and_then
  shifted items x (Ok t) = ap (λ z. Ok (z, t.1)) (sym (append_assoc items (x ∷ []) t.0))
  shifted items x (Err stop) = refl

  -- one more was read
  pub each-next : (items : List T) (count i : ℕ) (rest after : List ℕ) (x : T) (due : Taken (List T)) → i < count → reader rest ≡ Ok (x, after) → with_others items (count - i) rest ≡ due → with_others (items ++ x ∷ []) (count - (i + 1)) after ≡ due
  each-next items count i rest after x due lt e so_far =
      let k : count - i ≡ suc (count - (i + 1)) = omega arith in
      sym (ap (λ z. and_then z (in_front items)) (ap (λ n. take_each reader n rest) k ∙ one_more (count - (i + 1)) rest after x e)
      ∙ shifted items x (take_each reader (count - (i + 1)) after)) ∙ so_far

  -- one could not be read
  pub each-stops : (items : List T) (count i : ℕ) (rest : List ℕ) (stop : Stop) (due : Taken (List T)) → i < count → reader rest ≡ Err stop → with_others items (count - i) rest ≡ due → due ≡ Err stop
  unfolding take_each
  each-stops items count i rest stop due lt e so_far =
      let k : count - i ≡ suc (count - (i + 1)) = omega arith in
      sym so_far ∙ ap (λ n. with_others items n rest) k
      ∙ and_then_refused (take_each reader (suc (count - (i + 1))) rest) stop (in_front items) (and_then_refused (reader rest) stop _ e)

  -- so of a call that reads one
  pub each-fails : (items : List T) (count i : ℕ) (rest : List ℕ) (cause : Cause Stop) (due : Taken (List T)) → i < count → Fails cause (reader rest) → with_others items (count - i) rest ≡ due → Fails cause due
  each-fails items count i rest Memory due lt fails so_far = tt
  each-fails items count i rest (Refused stop) due lt fails so_far = each-stops items count i rest stop due lt fails so_far

  -- all were read
  pub each-end : (items : List T) (count i : ℕ) (rest : List ℕ) (due : Taken (List T)) → count ≤ i → with_others items (count - i) rest ≡ due → due ≡ Ok (items, rest)
  unfolding take_each and_then
  each-end items count i rest due le so_far =
      let k : count - i ≡ 0 = omega arith in
      sym so_far ∙ ap (λ n. with_others items n rest) k ∙ ap (λ z. Ok (z, rest)) (append-nil items)

-- all that such a loop needs
pub ruleset each_loops = (each-start, each-next, each-stops, each-end)
