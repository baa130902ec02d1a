-- The lowest and the highest number of a list.
use Rattle.std.proofs.Common.{◌≡◌, ◌≢◌, ℕ, ◌+◌, ◌<◌, ◌≤◌, max, ℤ, pos, negsuc, neg_ℤ, ◌≤ℤ◌, List, length, set, arith, below_more, get_or-set_other}
use Rattle.std.specs.Int.RustNames.{unsigned_abs}
use Rattle.std.proofs.lemmas.Grind.{common_steps}
use Rattle.std.proofs.lemmas.Int.{ints}
use Rattle.gfx_dwt.specs.Ranges.{AllWithin, Within, at}

-- of so many numbers at the front of a list, and nought
pub record Spans (values : List ℤ) (count : ℕ) (lowest highest : ℤ) : Type 0 where
  pub low : (k : ℕ) → k < count → lowest ≤ℤ at values k
  pub high : (k : ℕ) → k < count → at values k ≤ℤ highest
  pub kept_low : (bound : ℕ) → ((k : ℕ) → k < count → Within bound (at values k)) → Within bound lowest
  pub kept_high : (bound : ℕ) → ((k : ℕ) → k < count → Within bound (at values k)) → Within bound highest

pub no_span : (values : List ℤ) → Spans values 0 (pos 0) (pos 0)
no_span values = record {
  low = λ k h. absurd (omega arith);
  high = λ k h. absurd (omega arith);
  kept_low = λ bound _. record { low = omega (arith, ints); high = omega (arith, ints) };
  kept_high = λ bound _. record { low = omega (arith, ints); high = omega (arith, ints) };
}

pub spans_more : (values : List ℤ) (i : ℕ) (v lowest highest low high : ℤ) → v ≡ at values i → low ≤ℤ lowest → low ≤ℤ v → ((bound : ℕ) → Within bound lowest → Within bound v → Within bound low) → highest ≤ℤ high → v ≤ℤ high → ((bound : ℕ) → Within bound highest → Within bound v → Within bound high) → Spans values i lowest highest → Spans values (i + 1) low high
spans_more values i v lowest highest low high e a b kept_a d f kept_d s = record {
  low = below_more (λ k. low ≤ℤ at values k) i (λ k h. let before = s.low k h in omega (arith, ints, before)) (rw e at b);
  high = below_more (λ k. at values k ≤ℤ high) i (λ k h. let before = s.high k h in omega (arith, ints, before)) (rw e at f);
  kept_low = λ bound all. kept_a bound (s.kept_low bound (λ k h. all k (omega arith))) (rw e (all i (omega arith)));
  kept_high = λ bound all. kept_d bound (s.kept_high bound (λ k h. all k (omega arith))) (rw e (all i (omega arith)));
}

-- spans of numbers that are written one by one
spans_same : (xs ys : List ℤ) (count : ℕ) (lowest highest : ℤ) → ((k : ℕ) → k < count → at ys k ≡ at xs k) → Spans xs count lowest highest → Spans ys count lowest highest
spans_same xs ys count lowest highest same s = record {
  low = λ k h. rw (same k h) (s.low k h);
  high = λ k h. rw (same k h) (s.high k h);
  kept_low = λ bound all. s.kept_low bound (λ k h. rw (same k h) at (all k h));
  kept_high = λ bound all. s.kept_high bound (λ k h. rw (same k h) at (all k h));
}

pub spans_put : (xs : List ℤ) (i : ℕ) (v lowest highest low high : ℤ) → i < length xs → low ≤ℤ lowest → low ≤ℤ v → ((bound : ℕ) → Within bound lowest → Within bound v → Within bound low) → highest ≤ℤ high → v ≤ℤ high → ((bound : ℕ) → Within bound highest → Within bound v → Within bound high) → Spans xs i lowest highest → Spans (set xs i v) (i + 1) low high
spans_put xs i v lowest highest low high fits a b kept_a d f kept_d s =
    let new : v ≡ at (set xs i v) i = grind (arith, common_steps) in
    spans_more (set xs i v) i v lowest highest low high new a b kept_a d f kept_d
    (spans_same xs (set xs i v) i lowest highest (λ k h. let apart : k ≢ i = omega arith in get_or-set_other xs i k v (pos 0) apart) s)

abs_below : (z : ℤ) → neg_ℤ (pos (unsigned_abs z)) ≤ℤ z
abs_below (pos n) = omega (arith, ints)
abs_below (negsuc n) = omega (arith, ints)

abs_above : (z : ℤ) → z ≤ℤ pos (unsigned_abs z)
abs_above (pos n) = omega (arith, ints)
abs_above (negsuc n) = omega (arith, ints)

-- a number is within its magnitude
pub within_abs : (z : ℤ) → Within (unsigned_abs z) z
within_abs z = record { low = abs_below z; high = abs_above z }

abs_least : (bound : ℕ) (z : ℤ) → Within bound z → unsigned_abs z ≤ bound
abs_least bound (pos n) w = omega (arith, ints)
abs_least bound (negsuc n) w = omega (arith, ints)

-- the greater magnitude of the two is the greatest of all
pub spans_all : (values : List ℤ) (lowest highest : ℤ) → Spans values (length values) lowest highest → AllWithin (max (unsigned_abs lowest) (unsigned_abs highest)) values
spans_all values lowest highest s k h =
    let low = s.low k h in
    let high = s.high k h in
    let below = abs_below lowest in
    let above = abs_above highest in
    record { low = omega (arith, ints, low, below); high = omega (arith, ints, high, above) }

pub spans_least : (values : List ℤ) (lowest highest : ℤ) → Spans values (length values) lowest highest → (bound : ℕ) → AllWithin bound values → max (unsigned_abs lowest) (unsigned_abs highest) ≤ bound
spans_least values lowest highest s bound all =
    let low = abs_least bound lowest (s.kept_low bound all) in
    let high = abs_least bound highest (s.kept_high bound all) in
    omega (arith, low, high)
