-- Blocks of a list, looked at one after another.
use Rattle.std.proofs.Common.{Bool, true, false, ◌≡◌, ◌≢◌, ℕ, ◌+◌, ◌-◌, ◌<◌, ◌≤◌, ℤ, List, length, take, drop, length-take, length-drop, arith, sym, ap, ◌∙◌, subst, ⊎_elim}
use Rattle.std.specs.Prelude.{MatchBool}
use Rattle.gfx_dwt.specs.Noughts.{AllAre, SomeIsNot}
use Rattle.gfx_dwt.specs.Ranges.{at}
use Rattle.gfx_dwt.proofs.Same.{inside_or_not}
use Rattle.gfx_dwt.proofs.Strips.{strip_at}

-- all of a block is one number
pub block_is : (one : ℤ) (xs : List ℤ) (a n : ℕ) → a + n ≤ length xs → AllAre one (take n (drop a xs)) → (k : ℕ) → a ≤ k → k < a + n → at xs k ≡ one
block_is one xs a n fits all k p q =
    let i : a + (k - a) ≡ k = omega arith in
    ap (at xs) (sym i) ∙ sym (strip_at a n xs (k - a) (omega arith)) ∙ all (k - a) (omega (arith, length-take {A = ℤ}, length-drop {A = ℤ}))

-- a block more is of the number that all before it are
pub block_more : (one : ℤ) (xs : List ℤ) (a n : ℕ) → a + n ≤ length xs → AllAre one (take n (drop a xs)) → ((k : ℕ) → k < a → at xs k ≡ one) → (k : ℕ) → k < a + n → at xs k ≡ one
block_more one xs a n fits all before k h =
    ⊎_elim (λ p. before k p) (λ p. block_is one xs a n fits all k p h) (inside_or_not k a)

-- some number of a block is another
pub block_varies : (one : ℤ) (xs : List ℤ) (a n : ℕ) → a + n ≤ length xs → SomeIsNot one (take n (drop a xs)) → (k : ℕ) × (a ≤ k) × (k < a + n) × (at xs k ≢ one)
block_varies one xs a n fits some =
    let inside : some.0 < n = omega (arith, some.1, length-take {A = ℤ}, length-drop {A = ℤ}) in
    (a + some.0, omega arith, omega arith, subst (λ z. z ≢ one) (strip_at a n xs some.0 inside) some.2)

-- where all before a place is one number, all is, exactly where what is behind it is
pub rest_too : (same : Bool) (one : ℤ) (xs : List ℤ) (a : ℕ) → a ≤ length xs → ((k : ℕ) → k < a → at xs k ≡ one) → MatchBool same (AllAre one (take (length xs - a) (drop a xs))) (SomeIsNot one (take (length xs - a) (drop a xs))) → MatchBool same (AllAre one xs) (SomeIsNot one xs)
rest_too true one xs a h before rest = λ k p. block_more one xs a (length xs - a) (omega arith) rest before k (omega arith)
rest_too false one xs a h before rest =
    let some = block_varies one xs a (length xs - a) (omega arith) rest in
    (some.0, omega (arith, some.2), some.3)
