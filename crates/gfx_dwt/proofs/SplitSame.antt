-- The halves of a line depend on its places alone, and are bounded by their bound.
use Rattle.std.proofs.Common.{◌≡◌, ℕ, ◌+◌, ◌-◌, ◌*◌, ◌<◌, ◌≤◌, min, ℤ, arith, sym, refl, ◌∙◌, inl, inr, ◌⊎◌, ⊎_elim, lit≤}
use Rattle.std.proofs.lemmas.Int.{ints}
use Rattle.std.proofs.lemmas.Bool.Decides.{nat_tests}
use Rattle.gfx_dwt.specs.declared.layout.Transform.{Transform}
use Rattle.gfx_dwt.specs.declared.layout.Transform.TheVariants.{Plain, Reduced}
use Rattle.gfx_dwt.specs.declared.layout.Scale.{Scale}
use Rattle.gfx_dwt.specs.declared.layout.Scale.TheVariants.{First, Second, Third}
use Rattle.gfx_dwt.specs.Place.{low_size, high_size, line_size}
use Rattle.gfx_dwt.specs.Joining.{behind, edged}
use Rattle.gfx_dwt.specs.Lifting.{high_of, low_of}
use Rattle.gfx_dwt.specs.Ranges.{Within}
use Rattle.gfx_dwt.specs.Splitting.{beyond, evens, high_half, low_half, grows}
use Rattle.gfx_dwt.proofs.Bounds.{high_of_within, low_of_within, low_of_noughts}
use Rattle.gfx_dwt.proofs.Edges.{high_le_low}
use Rattle.gfx_dwt.proofs.Same.{inside_or_not, edged_same, edged_within, within_more}
use Rattle.gfx_dwt.proofs.SplitLines.{evens_inside, low_first_32}

pub evens_far : (line : ℕ → ℤ) (n : ℕ) → 32 ≤ n → evens Reduced First line n ≡ beyond (line 62) (line 63)
unfolding evens
evens_far line n h = grind (arith, nat_tests)

-- the even sample that the line does not have
abbrev pub IsFar : Transform → Scale → ℕ → Type 0
IsFar Reduced First n = n ≡ 32
IsFar _ _ n = ⊥

pub which_even : (t : Transform) (l : Scale) (n : ℕ) → n < low_size t l → (2 * n < line_size t l) ⊎ IsFar t l n
which_even Plain First n h = inl (omega (arith, h))
which_even Plain Second n h = inl (omega (arith, h))
which_even Plain Third n h = inl (omega (arith, h))
which_even Reduced First n h = ⊎_elim (λ k. inl (omega (arith, k))) (λ k. inr (omega (arith, h, k))) (inside_or_not n 32)
which_even Reduced Second n h = inl (omega (arith, h))
which_even Reduced Third n h = inl (omega (arith, h))

-- what holds at every far place holds where the line is longest
far_only : (P : Transform → Scale → ℕ → Type 0) → P Reduced First 32 → (t : Transform) (l : Scale) (n : ℕ) → IsFar t l n → P t l n
far_only P p Plain First n h = absurd h
far_only P p Plain Second n h = absurd h
far_only P p Plain Third n h = absurd h
far_only P p Reduced First n h = rw h p
far_only P p Reduced Second n h = absurd h
far_only P p Reduced Third n h = absurd h

pub evens_same : (t : Transform) (l : Scale) (line other : ℕ → ℤ) → ((k : ℕ) → k < line_size t l → line k ≡ other k) → (n : ℕ) → n < low_size t l → evens t l line n ≡ evens t l other n
evens_same t l line other same n h =
    ⊎_elim
    (λ k. evens_inside t l line n k ∙ same (2 * n) k ∙ sym (evens_inside t l other n k))
    (λ k. far_only (λ t l n. ((k : ℕ) → k < line_size t l → line k ≡ other k) → evens t l line n ≡ evens t l other n)
    (λ e. evens_far line 32 (lit≤ tt) ∙ rw (e 62 (omega arith), e 63 (omega arith)) refl ∙ sym (evens_far other 32 (lit≤ tt)))
    t l n k same)
    (which_even t l n h)

pub high_half_same : (t : Transform) (l : Scale) (line other : ℕ → ℤ) → ((k : ℕ) → k < line_size t l → line k ≡ other k) → (n : ℕ) → n < high_size t l → high_half t l line n ≡ high_half t l other n
unfolding high_half
high_half_same t l line other same n h =
    let le = high_le_low t l in
    let e = evens_same t l line other same in
    rw (same (2 * n + 1) (omega arith), e n (omega arith), e (min (n + 1) (low_size t l - 1)) (omega arith))

pub low_half_same : (t : Transform) (l : Scale) (line other : ℕ → ℤ) → ((k : ℕ) → k < line_size t l → line k ≡ other k) → (n : ℕ) → n < low_size t l → low_half t l line n ≡ low_half t l other n
unfolding low_half
low_half_same t l line other same n h =
    let e = edged_same t l (high_half t l line) (high_half t l other) (high_half_same t l line other same) in
    rw (evens_same t l line other same n h, e (n - 1), e n)

pub grows_two : (t : Transform) (l : Scale) (b : ℕ) → b + b ≤ grows t l * b
grows_two Plain l b = omega arith
grows_two Reduced First b = omega arith
grows_two Reduced Second b = omega arith
grows_two Reduced Third b = omega arith

pub grows_three : (t : Transform) (l : Scale) (b : ℕ) → grows t l * b ≤ 3 * b
grows_three Plain l b = omega arith
grows_three Reduced First b = omega arith
grows_three Reduced Second b = omega arith
grows_three Reduced Third b = omega arith

even_bound : (t : Transform) (l : Scale) (b : ℕ) (line : ℕ → ℤ) → ((k : ℕ) → k < line_size t l → Within b (line k)) → (n : ℕ) → 2 * n < line_size t l → Within b (evens t l line n)
even_bound t l b line p n h = rw (evens_inside t l line n h) (p (2 * n) h)

pub next_inside : (t : Transform) (l : Scale) (n : ℕ) → n < high_size t l → 2 * min (n + 1) (low_size t l - 1) < line_size t l
next_inside Plain First n h = omega (arith, h)
next_inside Plain Second n h = omega (arith, h)
next_inside Plain Third n h = omega (arith, h)
next_inside Reduced First n h = omega (arith, h)
next_inside Reduced Second n h = omega (arith, h)
next_inside Reduced Third n h = omega (arith, h)

pub high_half_within : (t : Transform) (l : Scale) (b : ℕ) (line : ℕ → ℤ) → ((k : ℕ) → k < line_size t l → Within b (line k)) → (n : ℕ) → n < high_size t l → Within b (high_half t l line n)
unfolding high_half
high_half_within t l b line p n h =
    let le = high_le_low t l in
    high_of_within t b _ _ _ (p (2 * n + 1) (omega arith)) (even_bound t l b line p n (omega arith)) (even_bound t l b line p (min (n + 1) (low_size t l - 1)) (next_inside t l n h))

beyond_within : (b : ℕ) (a z : ℤ) → Within b a → Within b z → Within (3 * b) (beyond a z)
beyond_within b a z p q = record { low = omega (arith, ints); high = omega (arith, ints) }

low_between_within : (t : Transform) (l : Scale) (b : ℕ) (line : ℕ → ℤ) → ((k : ℕ) → k < line_size t l → Within b (line k)) → (n : ℕ) → 2 * n < line_size t l → Within (b + b) (low_half t l line n)
unfolding low_half
low_between_within t l b line p n h =
    let e = edged_within t l b (high_half t l line) (high_half_within t l b line p) in
    low_of_within t b b _ _ _ (even_bound t l b line p n h) (e (n - 1)) (e n)

pub low_half_within : (t : Transform) (l : Scale) (b : ℕ) (line : ℕ → ℤ) → ((k : ℕ) → k < line_size t l → Within b (line k)) → (n : ℕ) → n < low_size t l → Within (grows t l * b) (low_half t l line n)
low_half_within t l b line p n h =
    ⊎_elim
    (λ k. within_more (b + b) (grows t l * b) _ (grows_two t l b) (low_between_within t l b line p n k))
    (λ k. far_only (λ t l n. ((k : ℕ) → k < line_size t l → Within b (line k)) → Within (grows t l * b) (low_half t l line n))
    (λ q. rw (low_first_32 line, low_of_noughts (beyond (line 62) (line 63))) (beyond_within b (line 62) (line 63) (q 62 (omega arith)) (q 63 (omega arith))))
    t l n k p)
    (which_even t l n h)

-- a low half whose high half is known
pub low_from : (t : Transform) (l : Scale) (line high : ℕ → ℤ) → ((k : ℕ) → k < high_size t l → high k ≡ high_half t l line k) → (n : ℕ) → low_of t (evens t l line n) (edged t l high (n - 1)) (edged t l high n) ≡ low_half t l line n
unfolding low_half
low_from t l line high same n =
    let e = edged_same t l high (high_half t l line) same in
    rw (e (n - 1), e n)

pub is_high : (t : Transform) (l : Scale) (line : ℕ → ℤ) (n : ℕ) (z o a b : ℤ) → z ≡ high_of t o a b → o ≡ line (2 * n + 1) → a ≡ evens t l line n → b ≡ evens t l line (min (n + 1) (low_size t l - 1)) → z ≡ high_half t l line n
unfolding high_half
is_high t l line n z o a b e p q r = e ∙ rw (p, q, r) refl

pub low_of_same : (t : Transform) (z a b c a' b' c' : ℤ) → z ≡ low_of t a b c → a ≡ a' → b ≡ b' → c ≡ c' → z ≡ low_of t a' b' c'
low_of_same t z a b c a' b' c' e p q r = e ∙ rw (p, q, r) refl

far_first : (line high : ℕ → ℤ) (z : ℤ) → z ≡ beyond (line 62) (line 63) → z ≡ low_of Reduced (evens Reduced First line 32) (edged Reduced First high 31) (edged Reduced First high 32)
unfolding edged behind
far_first line high z e = e ∙ sym (low_of_noughts (beyond (line 62) (line 63))) ∙ rw (evens_far line 32 (lit≤ tt)) refl

-- the row that the longest line has behind its end
pub far_low : (t : Transform) (l : Scale) (line high : ℕ → ℤ) (n : ℕ) (z : ℤ) → n < low_size t l → line_size t l ≤ 2 * n → z ≡ beyond (line (line_size t l - 2)) (line (line_size t l - 1)) → z ≡ low_of t (evens t l line n) (edged t l high (n - 1)) (edged t l high n)
far_low t l line high n z h k e =
    ⊎_elim
    (λ p. absurd (omega arith))
    (λ p. far_only (λ t l n. z ≡ beyond (line (line_size t l - 2)) (line (line_size t l - 1)) → z ≡ low_of t (evens t l line n) (edged t l high (n - 1)) (edged t l high n))
    (λ e. far_first line high z e) t l n p e)
    (which_even t l n h)
