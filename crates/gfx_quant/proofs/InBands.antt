-- A loop over the ten bands of a plane.
use Rattle.std.proofs.Common.{◌-◌, ◌/◌, ◌^◌, ◌≡◌, ℕ, suc, zero, ◌+◌, ◌<◌, ◌≤◌, ℤ, List, [], ◌∷◌, map, take, arith, ap, refl, sym, subst, ◌∙◌, ◌⊎◌, inl, inr, Bool, true, false, None}
use Rattle.std.specs.Prelude.{sum, sum_by, slice_index_or}
use Rattle.std.proofs.lemmas.List.Sums.{sum-map, sum_by-take-le}
use Rattle.gfx_dwt.specs.declared.layout.Transform.{Transform}
use Rattle.gfx_dwt.specs.declared.layout.Band.{Band}
use Rattle.gfx_dwt.specs.declared.layout.Band.TheVariants.{Hl1, Lh1, Hh1, Hl2, Lh2, Hh2, Hl3, Lh3, Hh3, Ll3}
use Rattle.gfx_dwt.specs.Place.{LiesIn, bands, number, size, start}
use Rattle.gfx_dwt.specs.Ranges.{Within, at}
use Rattle.std.specs.Prelude.{◌&&◌, MatchBool, nat_le}
use Rattle.std.proofs.lemmas.Bool.{cases_lt}
use Rattle.gfx_quant.specs.Coefficient.{dequantised}
use Rattle.gfx_quant.specs.Quant.{value_of}
use Rattle.gfx_quant.proofs.InRange.{within_has}
use Rattle.gfx_quant.specs.Planes.{AllHave, LeavesRange, MapsBetween, PlaneHas, SomeLacks, has_coefficient}

-- a band is the one of its number
from_number : (band : Band) → slice_index_or bands (number band) Hl1 ≡ band
from_number Hl1 = refl
from_number Lh1 = refl
from_number Hh1 = refl
from_number Hl2 = refl
from_number Lh2 = refl
from_number Hh2 = refl
from_number Hl3 = refl
from_number Lh3 = refl
from_number Hh3 = refl
from_number Ll3 = refl

pub same_band : (one other : Band) → number one ≡ number other → one ≡ other
same_band one other e = sym (from_number one) ∙ ap (λ n. slice_index_or bands n Hl1) e ∙ from_number other

take-take_less : (n m : ℕ) (xs : List Band) → n ≤ m → take n (take m xs) ≡ take n xs
take-take_less zero m xs h = refl
take-take_less (suc n) zero xs h = absurd (omega arith)
take-take_less (suc n) (suc m) [] h = refl
take-take_less (suc n) (suc m) (x ∷ xs) h = ap (λ (ys : List Band). x ∷ ys) (take-take_less n m xs (omega arith))

-- more items sum to no less
front_sum : (f : Band → ℕ) (xs : List Band) (n m : ℕ) → n ≤ m → sum (map f (take n xs)) ≤ sum (map f (take m xs))
front_sum f xs n m h =
    let less : sum_by f (take n (take m xs)) ≤ sum_by f (take m xs) = sum_by-take-le f (take m xs) n in
    rw (sum-map f (take n xs), sum-map f (take m xs)) (rw (take-take_less n m xs h) at less)

-- a band ends where the next one begins
end_of : (t : Transform) (band : Band) → start t band + size t band ≡ sum (map (size t) (take (number band + 1) bands))
end_of t Hl1 = refl
end_of t Lh1 = refl
end_of t Hh1 = refl
end_of t Hl2 = refl
end_of t Lh2 = refl
end_of t Hh2 = refl
end_of t Hl3 = refl
end_of t Lh3 = refl
end_of t Hh3 = refl
end_of t Ll3 = refl

-- a later band begins behind an earlier one's end
apart : (t : Transform) (one other : Band) → number one < number other → start t one + size t one ≤ start t other
apart t one other h =
    let more : sum (map (size t) (take (number one + 1) bands)) ≤ sum (map (size t) (take (number other) bands)) = front_sum (size t) bands (number one + 1) (number other) (omega arith) in
    omega (arith, end_of t one)

-- the first few bands of the new plane are f of the source's, the others are as they were
pub record MapsFirst (count : ℕ) (t : Transform) (f : Band → ℤ → ℤ) (source old new : List ℤ) : Type 0 where
  pub done : (band : Band) (k : ℕ) → number band < count → LiesIn t band k → at new k ≡ f band (at source k)
  pub due : (band : Band) (k : ℕ) → count ≤ number band → LiesIn t band k → at new k ≡ at old k

-- a place of one of the first i + 1 bands lies in an earlier band, or in this one
split_bands : (i : ℕ) (band other : Band) → number band ≡ i → number other < i + 1 → (number other < i) ⊎ (band ≡ other)
split_bands i band other e h = elim (cases_lt (number other) i) [ inl a ↦ inl a | inr b ↦ inr (same_band band other (omega arith)) ]

-- one more band of the new plane is f of the source's
pub maps_more : (i : ℕ) (t : Transform) (f : Band → ℤ → ℤ) (g : ℤ → ℤ) (band : Band) (from count : ℕ) (source read old now new : List ℤ) → number band ≡ i → from ≡ start t band → count ≡ size t band → ((v : ℤ) → g v ≡ f band v) → ((k : ℕ) → LiesIn t band k → at read k ≡ at source k) → MapsFirst i t f source old now → MapsBetween g from (from + count) read now new → MapsFirst (i + 1) t f source old new
maps_more i t f g band from count source read old now new e es ez same reads before step = record {
  done = λ other k h lies. elim (split_bands i band other e h) [
    | inl earlier ↦
        let ahead : start t other + size t other ≤ start t band = apart t other band (omega arith) in
        step.below k (omega (arith, lies.1)) ∙ before.done other k earlier lies
    | inr here ↦
        let P : Band → Type 0 = λ b. LiesIn t b k → at new k ≡ f b (at source k) in
        subst P here (λ l. step.inside k (omega (arith, l.0)) (omega (arith, l.1)) ∙ same (at read k) ∙ ap (f band) (reads k l)) lies
  ];
  due = λ other k h lies.
      let later : start t band + size t band ≤ start t other = apart t band other (omega arith) in
      step.behind k (omega (arith, lies.0)) ∙ before.due other k (omega arith) lies;
}

lacks_is : (position : ℕ) (v : ℤ) → has_coefficient position v ≡ false → dequantised v position ≡ None
lacks_is position v h = rw h refl

-- one more band whose values have coefficients
pub more_bands : (i : ℕ) (t : Transform) (positions : List ℕ) (plane : List ℤ) (band : Band) (position from count : ℕ) (fits here : Bool) → number band ≡ i → position ≡ value_of positions band → from ≡ start t band → count ≡ size t band → MatchBool fits (PlaneHas i t positions plane) (LeavesRange t positions plane) → MatchBool here (AllHave position plane from (from + count)) (SomeLacks position plane from (from + count)) → MatchBool (fits && here) (PlaneHas (i + 1) t positions plane) (LeavesRange t positions plane)
more_bands i t positions plane band position from count true true e ep es ez before all = λ other k h lies. elim (split_bands i band other e h) [
  | inl earlier ↦ before other k earlier lies
  | inr here ↦
      let P : Band → Type 0 = λ b. LiesIn t b k → has_coefficient (value_of positions b) (at plane k) ≡ true in
      subst P here (λ l. rw ep at (all k (omega (arith, l.0)) (omega (arith, l.1)))) lies
]
more_bands i t positions plane band position from count true false e ep es ez before some =
    (band, (some.0, ((omega (arith, some.1.0), omega (arith, some.1.1)), rw ep at (lacks_is position (at plane some.0) some.1.2))))
more_bands i t positions plane band position from count false here e ep es ez before h = before

-- a band before LL3 whose values are within a magnitude that has a coefficient
pub known_have : (t : Transform) (plane : List ℤ) (position magnitude : ℕ) (band : Band) → number band < number Ll3 → nat_le magnitude (32767 / 2 ^ (position - 1)) ≡ true
    → ((k : ℕ) → k < start t Ll3 → Within magnitude (at plane k)) → AllHave position plane (start t band) (start t band + size t band)
known_have t plane position magnitude band h e within k p q = within_has position magnitude (at plane k) e (within k (omega (arith, q, apart t band Ll3 h)))
