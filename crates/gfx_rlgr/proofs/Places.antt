-- Terms in their places.
use Rattle.std.proofs.Common.{get_or, ◌≡◌, ℕ, zero, suc, ◌+◌, ◌-◌, ◌<◌, ◌≤◌, ℤ, pos, List, [], ◌∷◌, ◌++◌, length, take, set, refl, sym, ap, ◌∙◌, arith, append_assoc, length-append, replicate, min, inl, inr}
use Rattle.std.specs.Prelude.{max}
use Rattle.std.specs.Int.RustNames.{unsigned_abs}
use Rattle.std.specs.List.{All}
use Rattle.std.proofs.lemmas.List.{take-replicate, replicate-append-replicate, length-replicate, get_or-replicate, take-append-le, take_all, append-nil}
use Rattle.std.proofs.lemmas.Bool.{cases_lt}
use Rattle.std.proofs.Math.Seq.{take-append-add}
use Rattle.gfx_rlgr.specs.Bound.{greatest}
use Rattle.gfx_rlgr.specs.Steps.{filled}

same-zeros : (values : List ℤ) (n i j : ℕ) → n ≤ i → n ≤ j → take n (values ++ replicate i (pos 0)) ≡ take n (values ++ replicate j (pos 0))
same-zeros [] n i j p q = take-replicate n i (pos 0) p ∙ sym (take-replicate n j (pos 0) q)
same-zeros (v ∷ values) zero i j p q = refl
same-zeros (v ∷ values) (suc n) i j p q = ap (λ vs. v ∷ vs) (same-zeros values n i j (omega arith) (omega arith))

-- zeros behind the values are there already
pub more-zeros : (n z : ℕ) (values : List ℤ) → filled n (values ++ replicate z (pos 0)) ≡ filled n values
unfolding filled
more-zeros n z values =
    ap (take n) (append_assoc values (replicate z (pos 0)) (replicate n (pos 0)) ∙ ap (λ vs. values ++ vs) (replicate-append-replicate z n (pos 0)))
    ∙ same-zeros values n (z + n) n (omega arith) (omega arith)

pub zeros-filled : (n : ℕ) → replicate n (pos 0) ≡ filled n []
unfolding filled
zeros-filled n = sym (take-replicate n n (pos 0) (omega arith))

pub all-zero : (n : ℕ) (out : List ℤ) → out ≡ filled n [] → All (λ value. value ≡ pos 0) out
all-zero n out is place d h =
    let zeros : out ≡ replicate n (pos 0) = is ∙ sym (zeros-filled n) in
    ap (λ values. get_or values place d) zeros ∙ get_or-replicate n place (pos 0) d (omega (arith, ap length zeros, length-replicate n (pos 0)))

-- what is behind the last place is cut
pub filled-whole : (n : ℕ) (values : List ℤ) → n ≤ length values → filled n values ≡ take n values
unfolding filled
filled-whole n values h = take-append-le n values (replicate n (pos 0)) h

pub filled-past : (n : ℕ) (values more : List ℤ) → n ≤ length values → filled n (values ++ more) ≡ filled n values
filled-past n values more h =
    filled-whole n (values ++ more) (omega (arith, length-append values more)) ∙ take-append-le n values more h ∙ sym (filled-whole n values h)

set-zero : (values : List ℤ) (n i j : ℕ) (v : ℤ) → length values < n → n ≤ i → n ≤ suc j
    → set (take n (values ++ replicate i (pos 0))) (length values) v ≡ take n ((values ++ v ∷ []) ++ replicate j (pos 0))
set-zero values zero i j v h p q = absurd (omega arith)
set-zero [] (suc n) zero j v h p q = absurd (omega arith)
set-zero [] (suc n) (suc i) j v h p q = ap (λ vs. v ∷ vs) (take-replicate n i (pos 0) (omega arith) ∙ sym (take-replicate n j (pos 0) (omega arith)))
set-zero (x ∷ values) (suc n) i j v h p q = ap (λ vs. x ∷ vs) (set-zero values n i j v (omega arith) (omega arith) (omega arith))

-- the next value in its place
pub filled-set : (n : ℕ) (values : List ℤ) (v : ℤ) → length values < n → set (filled n values) (length values) v ≡ filled n (values ++ v ∷ [])
unfolding filled
filled-set n values v h = set-zero values n n n v h (omega arith) (omega arith)

greatest-append : (xs ys : List ℤ) → greatest (xs ++ ys) ≡ max (greatest xs) (greatest ys)
unfolding greatest
greatest-append [] ys = omega arith
greatest-append (x ∷ xs) ys = ap (max (unsigned_abs x)) (greatest-append xs ys) ∙ omega arith

greatest-zeros : (n : ℕ) → greatest (replicate n (pos 0)) ≡ 0
unfolding greatest
greatest-zeros zero = refl
greatest-zeros (suc n) = ap (max 0) (greatest-zeros n)

greatest-one : (v : ℤ) → max 0 (greatest (v ∷ [])) ≡ unsigned_abs v
unfolding greatest
greatest-one v = omega arith

-- ---- what `place` leaves: a run past the end, a run, and a run with its value

pub placed-past : (n : ℕ) (values more out : List ℤ) (z : ℕ) → out ≡ filled n values → length values < n → n ≤ length values + z
    → (out ≡ filled n (values ++ (replicate z (pos 0) ++ more)))
    × (n ≡ min n (length (values ++ (replicate z (pos 0) ++ more))))
    × (greatest (take n (values ++ (replicate z (pos 0) ++ more))) ≡ max (greatest values) 0)
placed-past n values more out z is h past = (
  is ∙ sym (more-zeros n z values) ∙ sym (filled-past n (values ++ replicate z (pos 0)) more (omega (arith, long))) ∙ ap (filled n) (append_assoc values (replicate z (pos 0)) more),
  omega (arith, long, all),
  ap greatest front ∙ greatest-append values (replicate (n - length values) (pos 0)) ∙ ap (max (greatest values)) (greatest-zeros (n - length values)),
)
  where
    long : length (values ++ replicate z (pos 0)) ≡ length values + z
    long = length-append values (replicate z (pos 0)) ∙ ap (λ k. length values + k) (length-replicate z (pos 0))

    all : length (values ++ (replicate z (pos 0) ++ more)) ≡ length values + (z + length more)
    all = length-append values (replicate z (pos 0) ++ more) ∙ ap (λ k. length values + k) (length-append (replicate z (pos 0)) more ∙ ap (λ k. k + length more) (length-replicate z (pos 0)))

    front : take n (values ++ (replicate z (pos 0) ++ more)) ≡ values ++ replicate (n - length values) (pos 0)
    front =
        ap (λ k. take k (values ++ (replicate z (pos 0) ++ more))) {y = length values + (n - length values)} (omega arith)
        ∙ take-append-add values (replicate z (pos 0) ++ more) (n - length values)
        ∙ ap (λ vs. values ++ vs)
        (take-append-le (n - length values) (replicate z (pos 0)) more (omega (arith, length-replicate z (pos 0)))
        ∙ take-replicate (n - length values) z (pos 0) (omega arith))

pub placed-run : (n : ℕ) (values out : List ℤ) (z : ℕ) → out ≡ filled n values → length values + z < n
    → (out ≡ filled n (values ++ (replicate z (pos 0) ++ [])))
    × (length values + z ≡ min n (length (values ++ (replicate z (pos 0) ++ []))))
    × (greatest (take n (values ++ (replicate z (pos 0) ++ []))) ≡ max (greatest values) 0)
placed-run n values out z is h = (
  is ∙ sym (more-zeros n z values) ∙ ap (λ vs. filled n (values ++ vs)) (sym (append-nil (replicate z (pos 0)))),
  omega (arith, all),
  ap greatest (take_all n (values ++ (replicate z (pos 0) ++ [])) (omega (arith, all)))
      ∙ greatest-append values (replicate z (pos 0) ++ [])
      ∙ ap (λ vs. max (greatest values) (greatest vs)) (append-nil (replicate z (pos 0)))
      ∙ ap (max (greatest values)) (greatest-zeros z),
)
  where
    all : length (values ++ (replicate z (pos 0) ++ [])) ≡ length values + z
    all = length-append values (replicate z (pos 0) ++ []) ∙ ap (λ k. length values + k) (ap length (append-nil (replicate z (pos 0))) ∙ length-replicate z (pos 0))

pub placed-value : (n : ℕ) (values out : List ℤ) (z : ℕ) (v : ℤ) → out ≡ filled n values → length values + z < n
    → (set out (length values + z) v ≡ filled n (values ++ (replicate z (pos 0) ++ v ∷ [])))
    × (length values + z + 1 ≡ min n (length (values ++ (replicate z (pos 0) ++ v ∷ []))))
    × (greatest (take n (values ++ (replicate z (pos 0) ++ v ∷ []))) ≡ max (greatest values) (unsigned_abs v))
placed-value n values out z v is h = (
  ap (λ vs. set vs (length values + z) v) (is ∙ sym (more-zeros n z values))
      ∙ ap (λ k. set (filled n (values ++ replicate z (pos 0))) k v) (sym long)
      ∙ filled-set n (values ++ replicate z (pos 0)) v (omega (arith, long))
      ∙ ap (filled n) (append_assoc values (replicate z (pos 0)) (v ∷ [])),
  omega (arith, all),
  ap greatest (take_all n (values ++ (replicate z (pos 0) ++ v ∷ [])) (omega (arith, all)))
      ∙ greatest-append values (replicate z (pos 0) ++ v ∷ [])
      ∙ ap (max (greatest values)) (greatest-append (replicate z (pos 0)) (v ∷ []) ∙ ap (λ m. max m (greatest (v ∷ []))) (greatest-zeros z) ∙ greatest-one v),
)
  where
    long : length (values ++ replicate z (pos 0)) ≡ length values + z
    long = length-append values (replicate z (pos 0)) ∙ ap (λ k. length values + k) (length-replicate z (pos 0))

    all : length (values ++ (replicate z (pos 0) ++ v ∷ [])) ≡ length values + (z + 1)
    all = length-append values (replicate z (pos 0) ++ v ∷ []) ∙ ap (λ k. length values + k) (length-append (replicate z (pos 0)) (v ∷ []) ∙ ap (λ k. k + 1) (length-replicate z (pos 0)))

-- ---- zeros up to the end, and two values

pub placed-zeros : (n : ℕ) (values out : List ℤ) (z at : ℕ) → out ≡ filled n values → length values < n → at ≡ min n (length values + z)
    → (out ≡ filled n (values ++ (replicate z (pos 0) ++ [])))
    × (at ≡ min n (length (values ++ (replicate z (pos 0) ++ []))))
    × (greatest (take n (values ++ (replicate z (pos 0) ++ []))) ≡ max (greatest values) 0)
placed-zeros n values out z at is h on = elim (cases_lt (length values + z) n) [
  | inl inside ↦
      let put = placed-run n values out z is inside in
      let here : at ≡ length values + z = omega (arith, on, inside) in
      (put.0, here ∙ put.1, put.2)
  | inr past ↦
      let put = placed-past n values [] out z is h past in
      let end : at ≡ n = omega (arith, on, past) in
      (put.0, end ∙ put.1, put.2)
]

-- the first of two values
one-placed : (n : ℕ) (values out : List ℤ) (v : ℤ) → out ≡ filled n values → length values < n
    → (set out (length values) v ≡ filled n (values ++ v ∷ [])) × (greatest (values ++ v ∷ []) ≡ max (greatest values) (unsigned_abs v))
one-placed n values out v is h =
    let put = placed-value n values out 0 v is (omega arith) in
    let same : length values + 0 ≡ length values = omega arith in
    (rw same at put.0, ap greatest (sym (take_all n (values ++ v ∷ []) (omega (arith, length-append values (v ∷ []))))) ∙ put.2)

pub placed-pair : (n : ℕ) (values out : List ℤ) (one other : ℤ) → out ≡ filled n values → length values + 1 < n
    → (set (set out (length values) one) (length values + 1) other ≡ filled n (values ++ one ∷ (other ∷ [])))
    × (length values + 1 + 1 ≡ min n (length (values ++ one ∷ (other ∷ []))))
    × (greatest (take n (values ++ one ∷ (other ∷ []))) ≡ max (greatest values) (max (unsigned_abs one) (unsigned_abs other)))
placed-pair n values out one other is h =
    let first = one-placed n values out one is (omega (arith, h)) in
    let long : length (values ++ one ∷ []) ≡ length values + 1 = length-append values (one ∷ []) in
    let second = one-placed n (values ++ one ∷ []) (set out (length values) one) other first.0 (omega (arith, long, h)) in
    let whole : (values ++ one ∷ []) ++ other ∷ [] ≡ values ++ one ∷ (other ∷ []) = append_assoc values (one ∷ []) (other ∷ []) in (
      rw (long, whole) at second.0,
      omega (arith, h, length-append values (one ∷ (other ∷ []))),
      ap greatest (take_all n (values ++ one ∷ (other ∷ [])) (omega (arith, h, length-append values (one ∷ (other ∷ [])))) ∙ sym whole)
          ∙ second.1
          ∙ ap (λ m. max m (unsigned_abs other)) first.1
          ∙ omega arith,
    )

-- behind the last place the second is cut
pub placed-cut : (n : ℕ) (values out : List ℤ) (one other : ℤ) → out ≡ filled n values → length values + 1 ≡ n
    → (set out (length values) one ≡ filled n (values ++ one ∷ (other ∷ [])))
    × (n ≡ min n (length (values ++ one ∷ (other ∷ []))))
    × (greatest (take n (values ++ one ∷ (other ∷ []))) ≡ max (greatest values) (unsigned_abs one))
placed-cut n values out one other is h =
    let first = one-placed n values out one is (omega (arith, h)) in
    let long : length (values ++ one ∷ []) ≡ length values + 1 = length-append values (one ∷ []) in
    let whole : (values ++ one ∷ []) ++ other ∷ [] ≡ values ++ one ∷ (other ∷ []) = append_assoc values (one ∷ []) (other ∷ []) in
    let cut : take n (values ++ one ∷ (other ∷ [])) ≡ values ++ one ∷ [] =
    ap (take n) (sym whole) ∙ take-append-le n (values ++ one ∷ []) (other ∷ []) (omega (arith, long, h)) ∙ take_all n (values ++ one ∷ []) (omega (arith, long, h)) in (
      first.0 ∙ sym (filled-past n (values ++ one ∷ []) (other ∷ []) (omega (arith, long, h))) ∙ ap (filled n) whole,
      omega (arith, h, length-append values (one ∷ (other ∷ []))),
      ap greatest cut ∙ first.1,
    )
