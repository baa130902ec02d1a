-- What a filter keeps of the numbers from one on.
use Rattle.std.proofs.Common.{◌≡◌, ◌∙◌, ◌⊎◌, ◌≢◌, ◌<◌, ◌≤◌, ◌+◌, inl, inr, ap, sym, refl, zero, suc, cond, filter, Bool, true, false, ℕ, [], ◌∷◌, Some, None, arith}
use Rattle.std.specs.Prelude.{slice_get}
use Rattle.std.specs.List.{range_with_len}
use Rattle.std.proofs.lemmas.Bool.{cases_eq}
use Rattle.gfx_slot_plan.specs.Pool.{is_none}

-- where none passes, nothing is kept
pub none_from : (p : ℕ → Bool) (from n : ℕ) → ((q : ℕ) → from ≤ q → q < from + n → p q ≡ false) → filter p (range_with_len from n) ≡ []
none_from p from zero none = refl
none_from p from (suc n) none =
    ap (λ b. cond b (from ∷ filter p (range_with_len (from + 1) n)) (filter p (range_with_len (from + 1) n))) (none from (omega arith) (omega arith))
    ∙ none_from p (from + 1) n (λ q on below. none q (omega arith) (omega arith))

-- the first that passes is the first that is kept
pub first_from : (p : ℕ → Bool) (from n x : ℕ) → from ≤ x → x < from + n → p x ≡ true → ((q : ℕ) → from ≤ q → q < x → p q ≡ false)
    → slice_get (filter p (range_with_len from n)) 0 ≡ Some x
first_from p from zero x on below passes others = absurd (omega arith)
first_from p from (suc n) x on below passes others = by (cases_eq x from) (λ over. first_from p (from + 1) n x over)
  where
    by : ((x ≡ from) ⊎ (x ≢ from))
        → (from + 1 ≤ x → x < from + 1 + n → p x ≡ true → ((q : ℕ) → from + 1 ≤ q → q < x → p q ≡ false) → slice_get (filter p (range_with_len (from + 1) n)) 0 ≡ Some x)
        → slice_get (filter p (range_with_len from (suc n))) 0 ≡ Some x
    by (inl same) rest =
        ap (λ b. slice_get (cond b (from ∷ filter p (range_with_len (from + 1) n)) (filter p (range_with_len (from + 1) n))) 0) (ap p (sym same) ∙ passes)
        ∙ ap Some (sym same)
    by (inr apart) rest =
        ap (λ b. slice_get (cond b (from ∷ filter p (range_with_len (from + 1) n)) (filter p (range_with_len (from + 1) n))) 0) (others from (omega arith) (omega arith))
        ∙ rest (omega arith) (omega arith) passes (λ q later less. others q (omega arith) less)

-- where one passes, something is kept
pub some_from : (p : ℕ → Bool) (from n x : ℕ) → from ≤ x → x < from + n → p x ≡ true → is_none (filter p (range_with_len from n)) ≡ false
some_from p from zero x on below passes = absurd (omega arith)
some_from p from (suc n) x on below passes = by (cases_eq x from) (λ over. some_from p (from + 1) n x over)
  where
    by : ((x ≡ from) ⊎ (x ≢ from))
        → (from + 1 ≤ x → x < from + 1 + n → p x ≡ true → is_none (filter p (range_with_len (from + 1) n)) ≡ false)
        → is_none (filter p (range_with_len from (suc n))) ≡ false
    by (inl same) rest =
        ap (λ b. is_none (cond b (from ∷ filter p (range_with_len (from + 1) n)) (filter p (range_with_len (from + 1) n)))) (ap p (sym same) ∙ passes)
    by (inr apart) rest =
        elim (p from) as (λ b. is_none (cond b (from ∷ filter p (range_with_len (from + 1) n)) (filter p (range_with_len (from + 1) n))) ≡ false) [
          | true ↦ refl
          | false ↦ rest (omega arith) (omega arith) passes
        ]

-- tests that agree on the numbers keep the same
pub same_from : (p t : ℕ → Bool) (from n : ℕ) → ((q : ℕ) → from ≤ q → q < from + n → p q ≡ t q) → filter p (range_with_len from n) ≡ filter t (range_with_len from n)
same_from p t from zero agree = refl
same_from p t from (suc n) agree =
    let rest : filter p (range_with_len (from + 1) n) ≡ filter t (range_with_len (from + 1) n) = same_from p t (from + 1) n (λ q on below. agree q (omega arith) (omega arith)) in
    λ i. cond (agree from (omega arith) (omega arith) i) (from ∷ rest i) (rest i)

-- the first that is kept passes
pub first_passes : (p : ℕ → Bool) (from n x : ℕ) → slice_get (filter p (range_with_len from n)) 0 ≡ Some x → (from ≤ x) × ((x < from + n) × (p x ≡ true))
first_passes p from zero x first = let no : None ≡ Some x = first in cc
first_passes p from (suc n) x first = by (p from) refl (first_passes p (from + 1) n x)
  where
    by : (b : Bool) → p from ≡ b
        → (slice_get (filter p (range_with_len (from + 1) n)) 0 ≡ Some x → (from + 1 ≤ x) × ((x < from + 1 + n) × (p x ≡ true)))
        → (from ≤ x) × ((x < from + suc n) × (p x ≡ true))
    by true passes rest =
        let some : Some from ≡ Some x =
        sym (ap (λ b. slice_get (cond b (from ∷ filter p (range_with_len (from + 1) n)) (filter p (range_with_len (from + 1) n))) 0) passes) ∙ first in
        let same : from ≡ x = cc in
        (omega arith, (omega arith, ap p (sym same) ∙ passes))
    by false skips rest =
        let later = rest (sym (ap (λ b. slice_get (cond b (from ∷ filter p (range_with_len (from + 1) n)) (filter p (range_with_len (from + 1) n))) 0) skips) ∙ first) in
        let on = later.0 in
        let below = later.1.0 in
        (omega arith, (omega arith, later.1.1))
