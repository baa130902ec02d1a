-- A line, away from its ends and at them.
use Rattle.std.proofs.Common.{◌≡◌, ℕ, ◌+◌, ◌-◌, ◌*◌, ◌/◌, ◌%◌, ◌<◌, ◌≤◌, min, ℤ, pos, lit≤, arith, sym, refl, ap, ◌∙◌, inl, inr, ◌⊎◌}
use Rattle.std.proofs.lemmas.Bool.Decides.{nat_tests}
use Rattle.gfx_dwt.specs.declared.layout.Transform.{Transform}
use Rattle.gfx_dwt.specs.declared.layout.Transform.TheVariants.{Plain, Reduced}
use Rattle.gfx_dwt.specs.declared.layout.Scale.{Scale}
use Rattle.gfx_dwt.specs.declared.layout.Scale.TheVariants.{First, Second, Third}
use Rattle.gfx_dwt.specs.Place.{low_size, high_size}
use Rattle.gfx_dwt.specs.Lifting.{even_of, odd_of}
use Rattle.gfx_dwt.proofs.Bounds.{even_of_noughts}
use Rattle.gfx_dwt.specs.Joining.{behind, edged, lowered, even, odd, joined}

pub high_le_low : (t : Transform) (l : Scale) → high_size t l ≤ low_size t l
high_le_low Plain First = lit≤ tt
high_le_low Plain Second = lit≤ tt
high_le_low Plain Third = lit≤ tt
high_le_low Reduced First = lit≤ tt
high_le_low Reduced Second = lit≤ tt
high_le_low Reduced Third = lit≤ tt

pub high_some : (t : Transform) (l : Scale) → 8 ≤ high_size t l
high_some Plain First = lit≤ tt
high_some Plain Second = lit≤ tt
high_some Plain Third = lit≤ tt
high_some Reduced First = lit≤ tt
high_some Reduced Second = lit≤ tt
high_some Reduced Third = lit≤ tt

pub plain_same : (l : Scale) → low_size Plain l ≡ high_size Plain l
plain_same First = refl
plain_same Second = refl
plain_same Third = refl

pub edged_inside : (t : Transform) (l : Scale) (high : ℕ → ℤ) (n : ℕ) → n < high_size t l → edged t l high n ≡ high n
unfolding edged
edged_inside t l high n h = grind (arith, nat_tests)

pub edged_behind : (t : Transform) (l : Scale) (high : ℕ → ℤ) (n : ℕ) → high_size t l ≤ n → edged t l high n ≡ behind t l (high (high_size t l - 1))
unfolding edged
edged_behind t l high n h = grind (arith, nat_tests)

pub even_inside : (t : Transform) (l : Scale) (low high : ℕ → ℤ) (n : ℕ) → n < high_size t l → even t l low high n ≡ lowered t low high n
unfolding even lowered
even_inside t l low high n h =
    let a : edged t l high (n - 1) ≡ high (n - 1) = edged_inside t l high (n - 1) (omega arith) in
    let b : edged t l high n ≡ high n = edged_inside t l high n h in
    rw (a, b)

pub odd_inside : (t : Transform) (l : Scale) (low high : ℕ → ℤ) (n : ℕ) → n + 1 < high_size t l → odd t l low high n ≡ odd_of t (high n) (lowered t low high n) (lowered t low high (n + 1))
unfolding odd
odd_inside t l low high n h =
    let le = high_le_low t l in
    let m : min (n + 1) (low_size t l - 1) ≡ n + 1 = omega arith in
    rw (m, edged_inside t l high n (omega arith), even_inside t l low high n (omega arith), even_inside t l low high (n + 1) h)

pub joined_even : (t : Transform) (l : Scale) (low high : ℕ → ℤ) (n : ℕ) → joined t l low high (2 * n) ≡ even t l low high n
unfolding joined
joined_even t l low high n =
    let a : 2 * n % 2 ≡ 0 = omega arith in
    let b : 2 * n / 2 ≡ n = omega arith in
    rw (a, b)

pub joined_odd : (t : Transform) (l : Scale) (low high : ℕ → ℤ) (n : ℕ) → joined t l low high (2 * n + 1) ≡ odd t l low high n
unfolding joined
joined_odd t l low high n =
    let a : (2 * n + 1) % 2 ≡ 1 = omega arith in
    let b : (2 * n + 1) / 2 ≡ n = omega arith in
    rw (a, b)

cases : (k : ℕ) → (k ≡ 2 * (k / 2)) ⊎ (k ≡ 2 * (k / 2) + 1)
cases k = grind arith

halves : (P : ℕ → Type 0) (w : ℕ) → ((n : ℕ) → 2 * n < w → P (2 * n)) → ((n : ℕ) → 2 * n + 1 < w → P (2 * n + 1)) → (k : ℕ) → k < w → (n : ℕ) → (k ≡ 2 * n) ⊎ (k ≡ 2 * n + 1) → P k
halves P w evens odds k h n (inl e) = let below : 2 * n < w = omega arith in rw e (evens n below)
halves P w evens odds k h n (inr e) = let below : 2 * n + 1 < w = omega arith in rw e (odds n below)

-- what holds of each even and each odd number below a bound holds of each number below it
pub by_parity : (P : ℕ → Type 0) (w : ℕ) → ((n : ℕ) → 2 * n < w → P (2 * n)) → ((n : ℕ) → 2 * n + 1 < w → P (2 * n + 1)) → (k : ℕ) → k < w → P k
by_parity P w evens odds k h = halves P w evens odds k h (k / 2) (cases k)

pub reduced_more : (l : Scale) → high_size Reduced l + 1 ≤ low_size Reduced l
reduced_more First = lit≤ tt
reduced_more Second = lit≤ tt
reduced_more Third = lit≤ tt

-- where the low half has one place more, the high half ends with its last place
pub behind_one_more : (l : Scale) (last : ℤ) → low_size Reduced l ≡ high_size Reduced l + 1 → behind Reduced l last ≡ last
unfolding behind
behind_one_more First last e = absurd (omega (arith, e))
behind_one_more Second last e = refl
behind_one_more Third last e = refl

-- the even sample behind the last place of the high half
pub even_behind : (t : Transform) (l : Scale) (low high : ℕ → ℤ) → even t l low high (high_size t l) ≡ even_of t (low (high_size t l)) (high (high_size t l - 1)) (behind t l (high (high_size t l - 1)))
unfolding even lowered
even_behind t l low high =
    let some = high_some t l in
    rw (edged_inside t l high (high_size t l - 1) (omega arith), edged_behind t l high (high_size t l) (omega arith))

pub odd_last_plain : (l : Scale) (low high : ℕ → ℤ) → odd Plain l low high (high_size Plain l - 1) ≡ odd_of Plain (high (high_size Plain l - 1)) (even Plain l low high (high_size Plain l - 1)) (even Plain l low high (high_size Plain l - 1))
unfolding odd
odd_last_plain l low high =
    let some = high_some Plain l in
    let same = plain_same l in
    let m : min (high_size Plain l - 1 + 1) (low_size Plain l - 1) ≡ high_size Plain l - 1 = omega arith in
    rw (m, edged_inside Plain l high (high_size Plain l - 1) (omega arith))

pub odd_last_reduced : (l : Scale) (low high : ℕ → ℤ) → odd Reduced l low high (high_size Reduced l - 1) ≡ odd_of Reduced (high (high_size Reduced l - 1)) (even Reduced l low high (high_size Reduced l - 1)) (even Reduced l low high (high_size Reduced l))
unfolding odd
odd_last_reduced l low high =
    let some = high_some Reduced l in
    let more = reduced_more l in
    let m : min (high_size Reduced l - 1 + 1) (low_size Reduced l - 1) ≡ high_size Reduced l = omega arith in
    rw (m, edged_inside Reduced l high (high_size Reduced l - 1) (omega arith))

pub even_first_last : (low high : ℕ → ℤ) → even Reduced First low high 32 ≡ even_of Reduced (low 32) (pos 0) (pos 0)
unfolding even lowered edged behind
even_first_last low high = refl

pub odd_first_last : (low high : ℕ → ℤ) → odd Reduced First low high 31 ≡ odd_of Reduced (pos 0) (even Reduced First low high 31) (even Reduced First low high 32)
unfolding odd edged behind
odd_first_last low high = refl

pub is_even : (t : Transform) (l : Scale) (low high : ℕ → ℤ) (n : ℕ) (z a b h : ℤ) → z ≡ even_of t a b h → a ≡ low n → b ≡ edged t l high (n - 1) → h ≡ edged t l high n → z ≡ even t l low high n
unfolding even lowered
is_even t l low high n z a b h e p q r = e ∙ rw (p, q, r) refl

pub is_odd : (t : Transform) (l : Scale) (low high : ℕ → ℤ) (n : ℕ) (z h a b : ℤ) → z ≡ odd_of t h a b → h ≡ edged t l high n → a ≡ even t l low high n → b ≡ even t l low high (min (n + 1) (low_size t l - 1)) → z ≡ odd t l low high n
unfolding odd
is_odd t l low high n z h a b e p q r = e ∙ rw (p, q, r) refl

-- where the line's width is even, the plain transform has the last even sample behind its end, and reduce-extrapolate a place of the low half
pub behind_plain : (l : Scale) (low high : ℕ → ℤ) (n : ℕ) → 2 * n + 2 ≡ low_size Plain l + high_size Plain l → even Plain l low high (min (n + 1) (low_size Plain l - 1)) ≡ even Plain l low high n
behind_plain l low high n e =
    let same = plain_same l in
    ap (even Plain l low high) (omega arith)

pub behind_reduced : (l : Scale) (low high : ℕ → ℤ) (n : ℕ) → 2 * n + 2 ≡ low_size Reduced l + high_size Reduced l → low (n + 1) ≡ even Reduced l low high (min (n + 1) (low_size Reduced l - 1))
behind_reduced First low high n e =
    let n_is : n ≡ 31 = omega (arith, e) in
    rw n_is (sym (even_first_last low high ∙ even_of_noughts (low 32)))
behind_reduced Second low high n e = absurd (omega (arith, e))
behind_reduced Third low high n e = absurd (omega (arith, e))

pub behind_plain_at : (t : Transform) (l : Scale) (low high : ℕ → ℤ) (n : ℕ) → t ≡ Plain → 2 * n + 2 ≡ low_size t l + high_size t l → even t l low high (min (n + 1) (low_size t l - 1)) ≡ even t l low high n
behind_plain_at Plain l low high n p e = behind_plain l low high n e
behind_plain_at Reduced l low high n p e = cc

pub behind_reduced_at : (t : Transform) (l : Scale) (low high : ℕ → ℤ) (n : ℕ) → t ≡ Reduced → 2 * n + 2 ≡ low_size t l + high_size t l → low (n + 1) ≡ even t l low high (min (n + 1) (low_size t l - 1))
behind_reduced_at Plain l low high n p e = cc
behind_reduced_at Reduced l low high n p e = behind_reduced l low high n e
