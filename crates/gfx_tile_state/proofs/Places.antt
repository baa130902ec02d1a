-- Planes, place by place.
use Rattle.std.proofs.lemmas.Bool.Decides.{eqb_tells}
use Rattle.std.proofs.Common.{inl, inr, set, subst, length-set, get_or-set_same, get_or-set_other, ◌≡◌, ℕ, zero, suc, ◌+◌, ◌*◌, ◌<◌, Bool, true, false, ◌&&◌, ℤ, pos, negsuc, ◌+ℤ◌, List, [], ◌∷◌, length, refl, sym, ap, ◌∙◌, arith, below_more, w16, ◌++◌, take, drop}
use Rattle.std.specs.Prelude.{MatchBool, FitsSigned, nat_lt}
use Rattle.std.proofs.lemmas.Bool.{ltb-true, lt-ltb}
use Rattle.std.proofs.lemmas.Int.{ints}
use Rattle.std.proofs.lemmas.List.{ext_get_or, take_at}
use Rattle.gfx_dwt.specs.Ranges.{IsCoefficient, Within, at}
use Rattle.gfx_quant.specs.Coefficient.{is_coefficient}
use Rattle.gfx_tile_state.specs.Passes.{added}

pub same-plane : (xs ys : List ℤ) (n : ℕ) → length xs ≡ n → length ys ≡ n → ((k : ℕ) → k < n → at xs k ≡ at ys k) → xs ≡ ys
same-plane xs ys n e f h = ext_get_or (pos 0) xs ys (e ∙ sym f) (λ i less. h i (omega arith))

pub length-added : (xs ys : List ℤ) → length xs ≡ length ys → length (added xs ys) ≡ length xs
unfolding added
length-added [] ys e = refl
length-added (x ∷ xs) [] e = absurd (omega arith)
length-added (x ∷ xs) (y ∷ ys) e = ap suc (length-added xs ys (omega arith))

pub at-added : (xs ys : List ℤ) (k : ℕ) → length xs ≡ length ys → k < length xs → at (added xs ys) k ≡ at xs k +ℤ at ys k
unfolding added
at-added [] ys k e h = absurd (omega arith)
at-added (x ∷ xs) [] k e h = absurd (omega arith)
at-added (x ∷ xs) (y ∷ ys) zero e h = refl
at-added (x ∷ xs) (y ∷ ys) (suc k) e h = at-added xs ys k (omega arith) (omega arith)

-- one more place is tested
pub more-fits : (P : ℕ → Bool) (i : ℕ) (fits here : Bool) → here ≡ P i
    → MatchBool fits ((k : ℕ) → k < i → P k ≡ true) ((k : ℕ) × (k < i) × (P k ≡ false))
    → MatchBool (fits && here) ((k : ℕ) → k < i + 1 → P k ≡ true) ((k : ℕ) × (k < i + 1) × (P k ≡ false))
more-fits P i true true e before = below_more (λ k. P k ≡ true) i before (sym e)
more-fits P i true false e before = (i, omega arith, sym e)
more-fits P i false here e before = (before.0, omega (arith, before.1), before.2)

pub within-more : (total x : ℤ) (i : ℕ) → Within (32767 * i) total → Within 32767 x → Within (32767 * (i + 1)) (total +ℤ x)
within-more total x i h g = record { low = omega (arith, ints, h.low, g.low); high = omega (arith, ints, h.high, g.high) }

-- a coefficient is put in a plane of coefficients
pub set-coefficient : (xs : List ℤ) (i : ℕ) (x : ℤ) → i < length xs → IsCoefficient x → ((k : ℕ) → k < length xs → IsCoefficient (at xs k)) → (k : ℕ) → k < length (set xs i x) → IsCoefficient (at (set xs i x) k)
set-coefficient xs i x inside here all k h = elim (eqb_tells k i) [
  | inl e ↦ subst IsCoefficient (sym (ap (λ j. at (set xs i x) j) e.1 ∙ get_or-set_same xs i x (pos 0) inside)) here
  | inr e ↦ subst IsCoefficient (sym (get_or-set_other xs i k x (pos 0) e.1)) (all k (omega (arith, length-set xs i x)))
]

-- a number of 16 bits
pub short : (z y : ℤ) → FitsSigned w16 z → y ≡ z → IsCoefficient y
short (pos n) y h e = rw e (record { least = omega (arith, ints); most = omega (arith, ints, h.sfits) })
short (negsuc n) y h e = rw e (record { least = omega (arith, ints, h.sfits); most = omega (arith, ints) })

-- what a test says
pub is-coefficient : (z : ℤ) → is_coefficient z ≡ true → IsCoefficient z
is-coefficient (pos n) e = let most : n < 32768 = ltb-true n 32768 e in record { least = omega (arith, ints); most = omega (arith, ints) }
is-coefficient (negsuc n) e = let most : n < 32768 = ltb-true n 32768 (and-left (nat_lt n 32768) e) in record { least = omega (arith, ints); most = omega (arith, ints) }
  where
    and-left : (b : Bool) → (b && true) ≡ true → b ≡ true
    and-left true f = refl
    and-left false f = f

pub tests : (z : ℤ) → IsCoefficient z → is_coefficient z ≡ true
tests (pos n) h = lt-ltb n 32768 (omega (arith, ints, h.most))
tests (negsuc n) h = ap (λ b. b && true) (lt-ltb n 32768 (omega (arith, ints, h.least)))

-- a part of a vector that is all of it
pub all-written : (n : ℕ) (xs items : List ℤ) → length xs ≡ 4096 → n ≡ 4096 → take n (xs ++ drop (length xs) items) ≡ xs
all-written n xs items e g = ap (λ m. take m (xs ++ drop (length xs) items)) {y = length xs} (omega arith) ∙ take_at xs (drop (length xs) items) (length xs) refl
