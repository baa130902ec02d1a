-- A line depends on the places of its two halves alone, and is bounded by their bounds.
use Rattle.std.proofs.Common.{◌≡◌, ℕ, ◌+◌, ◌-◌, ◌*◌, ◌<◌, ◌≤◌, min, ℤ, arith, sym, ap, ◌∙◌, ◌⊎◌, ⊎_elim}
use Rattle.std.proofs.lemmas.Int.{ints}
use Rattle.gfx_dwt.specs.declared.layout.Transform.{Transform}
use Rattle.gfx_dwt.specs.declared.layout.Transform.TheVariants.{Plain, Reduced}
use Rattle.gfx_dwt.specs.declared.layout.Scale.{Scale}
use Rattle.gfx_dwt.specs.declared.layout.Scale.TheVariants.{First, Second, Third}
use Rattle.gfx_dwt.specs.Place.{low_size, high_size}
use Rattle.gfx_dwt.specs.Joining.{behind, edged, lowered, even, odd, joined}
use Rattle.gfx_dwt.specs.Ranges.{Within}
use Rattle.gfx_dwt.proofs.Bounds.{even_of_within, odd_of_within}
use Rattle.gfx_dwt.proofs.Edges.{high_some, high_le_low, edged_inside, edged_behind, joined_even, joined_odd, by_parity}

pub inside_or_not : (n m : ℕ) → (n < m) ⊎ (m ≤ n)
inside_or_not n m = grind arith

pub edged_same : (t : Transform) (l : Scale) (high other : ℕ → ℤ) → ((n : ℕ) → n < high_size t l → high n ≡ other n) → (n : ℕ) → edged t l high n ≡ edged t l other n
edged_same t l high other same n =
    let some = high_some t l in
    ⊎_elim
    (λ h. edged_inside t l high n h ∙ same n h ∙ sym (edged_inside t l other n h))
    (λ h. edged_behind t l high n h ∙ ap (behind t l) (same (high_size t l - 1) (omega arith)) ∙ sym (edged_behind t l other n h))
    (inside_or_not n (high_size t l))

pub even_same : (t : Transform) (l : Scale) (low low' high high' : ℕ → ℤ) → ((n : ℕ) → n < low_size t l → low n ≡ low' n) → ((n : ℕ) → n < high_size t l → high n ≡ high' n) → (n : ℕ) → n < low_size t l → even t l low high n ≡ even t l low' high' n
unfolding even lowered
even_same t l low low' high high' a b n h =
    let same = edged_same t l high high' b in
    rw (a n h, same (n - 1), same n)

pub odd_same : (t : Transform) (l : Scale) (low low' high high' : ℕ → ℤ) → ((n : ℕ) → n < low_size t l → low n ≡ low' n) → ((n : ℕ) → n < high_size t l → high n ≡ high' n) → (n : ℕ) → n < low_size t l → odd t l low high n ≡ odd t l low' high' n
unfolding odd
odd_same t l low low' high high' a b n h =
    let same = even_same t l low low' high high' a b in
    rw (edged_same t l high high' b n, same n h, same (min (n + 1) (low_size t l - 1)) (omega arith))

pub joined_same : (t : Transform) (l : Scale) (low low' high high' : ℕ → ℤ) → ((n : ℕ) → n < low_size t l → low n ≡ low' n) → ((n : ℕ) → n < high_size t l → high n ≡ high' n) → (k : ℕ) → k < low_size t l + high_size t l → joined t l low high k ≡ joined t l low' high' k
joined_same t l low low' high high' a b =
    let le = high_le_low t l in
    by_parity (λ k. joined t l low high k ≡ joined t l low' high' k) (low_size t l + high_size t l)
    (λ n h. joined_even t l low high n ∙ even_same t l low low' high high' a b n (omega arith) ∙ sym (joined_even t l low' high' n))
    (λ n h. joined_odd t l low high n ∙ odd_same t l low low' high high' a b n (omega arith) ∙ sym (joined_odd t l low' high' n))

pub within_more : (a b : ℕ) (z : ℤ) → a ≤ b → Within a z → Within b z
within_more a b z h w = record { low = omega (arith, ints); high = omega (arith, ints) }

behind_within : (t : Transform) (l : Scale) (m : ℕ) (z : ℤ) → Within m z → Within m (behind t l z)
unfolding behind
behind_within Plain l m z w = w
behind_within Reduced First m z w = record { low = omega (arith, ints); high = omega (arith, ints) }
behind_within Reduced Second m z w = w
behind_within Reduced Third m z w = w

pub edged_within : (t : Transform) (l : Scale) (m : ℕ) (high : ℕ → ℤ) → ((n : ℕ) → n < high_size t l → Within m (high n)) → (n : ℕ) → Within m (edged t l high n)
edged_within t l m high b n =
    let some = high_some t l in
    ⊎_elim
    (λ h. rw (edged_inside t l high n h) (b n h))
    (λ h. rw (edged_behind t l high n h) (behind_within t l m _ (b (high_size t l - 1) (omega arith))))
    (inside_or_not n (high_size t l))

pub even_within : (t : Transform) (l : Scale) (a m : ℕ) (low high : ℕ → ℤ) → ((n : ℕ) → n < low_size t l → Within a (low n)) → ((n : ℕ) → n < high_size t l → Within m (high n)) → (n : ℕ) → n < low_size t l → Within (a + m) (even t l low high n)
unfolding even lowered
even_within t l a m low high p q n h =
    let e = edged_within t l m high q in
    even_of_within t a m (low n) (edged t l high (n - 1)) (edged t l high n) (p n h) (e (n - 1)) (e n)

pub odd_within : (t : Transform) (l : Scale) (a m : ℕ) (low high : ℕ → ℤ) → ((n : ℕ) → n < low_size t l → Within a (low n)) → ((n : ℕ) → n < high_size t l → Within m (high n)) → (n : ℕ) → n < low_size t l → Within (a + 3 * m) (odd t l low high n)
unfolding odd
odd_within t l a m low high p q n h =
    let e = even_within t l a m low high p q in
    within_more (a + m + 2 * m) (a + 3 * m) _ (omega arith)
    (odd_of_within t (a + m) m _ _ _ (edged_within t l m high q n) (e n h) (e (min (n + 1) (low_size t l - 1)) (omega arith)))

-- a line is within its low half's bound and three times its high half's
pub joined_within : (t : Transform) (l : Scale) (a m : ℕ) (low high : ℕ → ℤ) → ((n : ℕ) → n < low_size t l → Within a (low n)) → ((n : ℕ) → n < high_size t l → Within m (high n)) → (k : ℕ) → k < low_size t l + high_size t l → Within (a + 3 * m) (joined t l low high k)
joined_within t l a m low high p q =
    let le = high_le_low t l in
    by_parity (λ k. Within (a + 3 * m) (joined t l low high k)) (low_size t l + high_size t l)
    (λ n h. rw (joined_even t l low high n) (within_more (a + m) (a + 3 * m) _ (omega arith) (even_within t l a m low high p q n (omega arith))))
    (λ n h. rw (joined_odd t l low high n) (odd_within t l a m low high p q n (omega arith)))
