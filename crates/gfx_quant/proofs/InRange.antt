-- Which values have a coefficient, and loops that test it.
use Rattle.std.proofs.Common.{◌≡◌, ℕ, suc, zero, ◌+◌, ◌-◌, ◌*◌, ◌/◌, ◌^◌, ◌<◌, ◌≤◌, Bool, true, false, ℤ, pos, negsuc, neg_ℤ, ◌*ℤ◌, ◌≤ℤ◌, ◌<ℤ◌, List, arith, refl, sym, ◌∙◌, inl, inr, below_more, lit<, ⊎_elim}
use Rattle.std.specs.Prelude.{◌&&◌, ◌⊎◌, MatchBool, nat_le}
use Rattle.std.proofs.lemmas.Bool.{leb-true}
use Rattle.std.proofs.lemmas.Int.{ints}
use Rattle.std.proofs.Math.Nat.{mul-le-mul_right, div-le_self, div-mul-le_self, one-le-pow}
use Rattle.std.proofs.lemmas.Nat.{le-div}
use Rattle.gfx_dwt.specs.Ranges.{Within, at}
use Rattle.gfx_quant.specs.Coefficient.{coefficient_of, is_coefficient}
use Rattle.gfx_quant.specs.Planes.{AllHave, SomeLacks, has_coefficient}

below_is : (x : ℕ) → x < 32768 → is_coefficient (pos x) ≡ true
below_is x h = grind (arith, ints)

above_is : (x : ℕ) → 32768 ≤ x → is_coefficient (pos x) ≡ false
above_is x h = grind (arith, ints)

minus_below_is : (x : ℕ) → x ≤ 32768 → is_coefficient (neg_ℤ (pos x)) ≡ true
minus_below_is zero h = refl
minus_below_is (suc x) h = grind (arith, ints)

minus_above_is : (x : ℕ) → 32768 < x → is_coefficient (neg_ℤ (pos x)) ≡ false
minus_above_is zero h = grind (arith, ints)
minus_above_is (suc x) h = grind (arith, ints)

inside : (v : ℤ) (n : ℕ) → 0 < n → neg_ℤ (pos (32768 / n)) ≤ℤ v → v ≤ℤ pos (32767 / n) → is_coefficient (v *ℤ pos n) ≡ true
inside (pos m) n z low high =
    let near : m ≤ 32767 / n = omega (arith, ints) in
    below_is (m * n) (omega (arith, mul-le-mul_right n near, div-mul-le_self 32767 n))
inside (negsuc m) n z low high =
    let near : suc m ≤ 32768 / n = omega (arith, ints) in
    minus_below_is (suc m * n) (omega (arith, mul-le-mul_right n near, div-mul-le_self 32768 n))

outside : (v : ℤ) (n : ℕ) → 0 < n → (v <ℤ neg_ℤ (pos (32768 / n))) ⊎ (pos (32767 / n) <ℤ v) → is_coefficient (v *ℤ pos n) ≡ false
outside (pos m) n z (inl low) = absurd (omega (arith, ints))
outside (pos m) n z (inr high) =
    let far : 32767 / n + 1 ≤ m = omega (arith, ints) in
    above_is (m * n) (omega (arith, mul-le-mul_right n far))
outside (negsuc m) n z (inl low) =
    let far : 32768 / n + 1 ≤ suc m = omega (arith, ints) in
    minus_above_is (suc m * n) (omega (arith, mul-le-mul_right n far))
outside (negsuc m) n z (inr high) = absurd (omega (arith, ints))

-- a value between the bounds has a coefficient, and another has none
pub bounds_decide : (position : ℕ) (v least most : ℤ) (here : Bool) → least ≡ neg_ℤ (pos (32768 / 2 ^ (position - 1))) → most ≡ pos (32767 / 2 ^ (position - 1)) → MatchBool here ((least ≤ℤ v) × (v ≤ℤ most)) ((v <ℤ least) ⊎ (most <ℤ v)) → MatchBool here (has_coefficient position v ≡ true) (has_coefficient position v ≡ false)
bounds_decide position v least most true e f h = inside v (2 ^ (position - 1)) (one-le-pow (position - 1) 2 (lit< tt)) (rw e at h.0) (rw f at h.1)
bounds_decide position v least most false e f h = outside v (2 ^ (position - 1)) (one-le-pow (position - 1) 2 (lit< tt)) (rw (e, f) at h)

-- so has a value whose magnitude has one
pub within_has : (position magnitude : ℕ) (v : ℤ) → nat_le magnitude (32767 / 2 ^ (position - 1)) ≡ true → Within magnitude v → has_coefficient position v ≡ true
within_has position magnitude v e h =
    let n = 2 ^ (position - 1) in
    let some : 0 < n = one-le-pow (position - 1) 2 (lit< tt) in
    let few : magnitude ≤ 32767 / n = leb-true magnitude (32767 / n) e in
    let more : 32767 / n ≤ 32768 / n = le-div (32767 / n) 32768 n some (omega (arith, div-mul-le_self 32767 n)) in
    inside v n some (omega (arith, ints, h.low)) (omega (arith, ints, h.high))

-- one more value
pub more_have : (position : ℕ) (values : List ℤ) (from i : ℕ) (fits here : Bool) → from ≤ i → MatchBool fits (AllHave position values from i) (SomeLacks position values from i) → MatchBool here (has_coefficient position (at values i) ≡ true) (has_coefficient position (at values i) ≡ false) → MatchBool (fits && here) (AllHave position values from (i + 1)) (SomeLacks position values from (i + 1))
more_have position values from i true true h all p = λ k a b. below_more (λ k. from ≤ k → has_coefficient position (at values k) ≡ true) i (λ k b a. all k a b) (λ a. p) k b a
more_have position values from i true false h all p = (i, (h, omega arith, p))
more_have position values from i false true h some p = (some.0, (some.1.0, omega (arith, some.1.1), some.1.2))
more_have position values from i false false h some p = (some.0, (some.1.0, omega (arith, some.1.1), some.1.2))

either : (n m : ℕ) → (n < m) ⊎ (m ≤ n)
either n m = grind arith

-- nought has a coefficient at each bit position
pub nought_has : (position : ℕ) (v : ℤ) → v ≡ pos 0 → has_coefficient position v ≡ true
nought_has position v e = rw e (below_is (0 * 2 ^ (position - 1)) (omega arith))

-- what nought is scaled to
pub nought_scaled : (position : ℕ) (v : ℤ) → v ≡ pos 0 → pos 0 ≡ coefficient_of v position
nought_scaled position v e = rw e (omega (arith, ints))

-- the values before a place are nought
pub fewer_have : (position : ℕ) (values : List ℤ) (from middle to : ℕ) (fits : Bool) → from ≤ middle → middle ≤ to → ((k : ℕ) → from ≤ k → k < middle → at values k ≡ pos 0) → MatchBool fits (AllHave position values middle to) (SomeLacks position values middle to) → MatchBool fits (AllHave position values from to) (SomeLacks position values from to)
fewer_have position values from middle to true a b none all = λ k p q. ⊎_elim (λ h. nought_has position (at values k) (none k p h)) (λ h. all k h q) (either k middle)
fewer_have position values from middle to false a b none some = (some.0, (omega (arith, some.1.0), some.1.1, some.1.2))

-- nought, or a value from one place to before another
abbrev pub IsFound : List ℤ → ℕ → ℕ → ℤ → Type 0
IsFound values from to z = (z ≡ pos 0) ⊎ ((k : ℕ) × ((from ≤ k) × (k < to) × (at values k ≡ z)))

-- the lowest and the highest of the values from one place to before another, and of nought
pub record Spans (values : List ℤ) (from to : ℕ) (lowest highest : ℤ) : Type 0 where
  pub lows : (k : ℕ) → from ≤ k → k < to → lowest ≤ℤ at values k
  pub highs : (k : ℕ) → from ≤ k → k < to → at values k ≤ℤ highest
  pub low_found : IsFound values from to lowest
  pub high_found : IsFound values from to highest

pub no_span : (values : List ℤ) (from : ℕ) → Spans values from from (pos 0) (pos 0)
no_span values from = record {
  lows = λ k p q. absurd (omega arith);
  highs = λ k p q. absurd (omega arith);
  low_found = inl refl;
  high_found = inl refl;
}

found_more : (values : List ℤ) (from i : ℕ) (z next v : ℤ) → from ≤ i → v ≡ at values i → IsFound values from i z → (next ≡ z) ⊎ (next ≡ v) → IsFound values from (i + 1) next
found_more values from i z next v h e (inl o) (inl p) = inl (p ∙ o)
found_more values from i z next v h e (inr o) (inl p) = inr (o.0, (o.1.0, omega (arith, o.1.1), o.1.2 ∙ sym p))
found_more values from i z next v h e o (inr p) = inr (i, (h, omega arith, sym (p ∙ e)))

pub spans_more : (values : List ℤ) (from i : ℕ) (lowest highest low high v : ℤ) → from ≤ i → v ≡ at values i → low ≤ℤ lowest → low ≤ℤ v → (low ≡ lowest) ⊎ (low ≡ v) → highest ≤ℤ high → v ≤ℤ high → (high ≡ highest) ⊎ (high ≡ v) → Spans values from i lowest highest → Spans values from (i + 1) low high
spans_more values from i lowest highest low high v h e a b c d f g s = record {
  lows = λ k p q. below_more (λ k. from ≤ k → low ≤ℤ at values k) i (λ k l p. let one = s.lows k p l in omega (arith, ints)) (λ p. omega (arith, ints)) k q p;
  highs = λ k p q. below_more (λ k. from ≤ k → at values k ≤ℤ high) i (λ k l p. let one = s.highs k p l in omega (arith, ints)) (λ p. omega (arith, ints)) k q p;
  low_found = found_more values from i lowest low v h e s.low_found c;
  high_found = found_more values from i highest high v h e s.high_found g;
}

lacks : (position : ℕ) (values : List ℤ) (from to : ℕ) (z : ℤ) → IsFound values from to z → has_coefficient position z ≡ false → SomeLacks position values from to
lacks position values from to z (inl e) h = cc (nought_has position z e, h)
lacks position values from to z (inr o) h = (o.0, (o.1.0, o.1.1, rw o.1.2 h))

pub spans_decide : (position : ℕ) (values : List ℤ) (from to : ℕ) (lowest highest least most : ℤ) (low high : Bool) → least ≡ neg_ℤ (pos (32768 / 2 ^ (position - 1))) → most ≡ pos (32767 / 2 ^ (position - 1)) → Spans values from to lowest highest → MatchBool low ((least ≤ℤ lowest) × (lowest ≤ℤ most)) ((lowest <ℤ least) ⊎ (most <ℤ lowest)) → MatchBool high ((least ≤ℤ highest) × (highest ≤ℤ most)) ((highest <ℤ least) ⊎ (most <ℤ highest)) → MatchBool (low && high) (AllHave position values from to) (SomeLacks position values from to)
spans_decide position values from to lowest highest least most true true e f s p q = λ k a b.
    let one = s.lows k a b in
    let two = s.highs k a b in
    bounds_decide position (at values k) least most true e f (omega (arith, ints, p.0, one), omega (arith, ints, q.1, two))
spans_decide position values from to lowest highest least most true false e f s p q = lacks position values from to highest s.high_found (bounds_decide position highest least most false e f q)
spans_decide position values from to lowest highest least most false high e f s p q = lacks position values from to lowest s.low_found (bounds_decide position lowest least most false e f p)

-- a number beyond 16 bits has no coefficient at any bit position
pub beyond_lacks : (position : ℕ) (v : ℤ) → is_coefficient v ≡ false → has_coefficient position v ≡ false
beyond_lacks position (pos m) e = ⊎_elim
    (λ (h : m < 32768). cc (below_is m h, e))
    (λ (h : 32768 ≤ m).
    let less = div-le_self 32767 (2 ^ (position - 1)) in
    outside (pos m) (2 ^ (position - 1)) (one-le-pow (position - 1) 2 (lit< tt)) (inr (omega (arith, ints, less))))
    (either m 32768)
beyond_lacks position (negsuc m) e = ⊎_elim
    (λ (h : m < 32768). cc (minus_below_is (suc m) (omega arith), e))
    (λ (h : 32768 ≤ m).
    let less = div-le_self 32768 (2 ^ (position - 1)) in
    outside (negsuc m) (2 ^ (position - 1)) (one-le-pow (position - 1) 2 (lit< tt)) (inl (omega (arith, ints, less))))
    (either m 32768)
