-- How large the numbers of a list are that was filled with one number and then changed.
use Rattle.std.proofs.Common.{ℕ, zero, suc, ◌≤◌, ℤ, pos, negsuc, List, [], ◌∷◌, replicate, set, arith}
use Rattle.std.proofs.lemmas.Int.{ints}
use Rattle.gfx_dwt.specs.Ranges.{Within, at}

nought_within : (b : ℕ) → Within b (pos 0)
nought_within b = record { low = omega (arith, ints); high = omega (arith, ints) }

pub all_alike : (b n : ℕ) (v : ℤ) → Within b v → (k : ℕ) → Within b (at (replicate n v) k)
all_alike b zero v h k = nought_within b
all_alike b (suc n) v h zero = h
all_alike b (suc n) v h (suc k) = all_alike b n v h k

pub one_changed : (b : ℕ) (xs : List ℤ) (i : ℕ) (v : ℤ) → ((k : ℕ) → Within b (at xs k)) → Within b v → (k : ℕ) → Within b (at (set xs i v) k)
one_changed b [] i v h w k = nought_within b
one_changed b (x ∷ xs) zero v h w zero = w
one_changed b (x ∷ xs) zero v h w (suc k) = h (suc k)
one_changed b (x ∷ xs) (suc i) v h w zero = h zero
one_changed b (x ∷ xs) (suc i) v h w (suc k) = one_changed b xs i v (λ j. h (suc j)) w k

pub up_to : (b n : ℕ) → n ≤ b → Within b (pos n)
up_to b n h = record { low = omega (arith, ints); high = omega (arith, ints) }

pub down_to : (b n : ℕ) → suc n ≤ b → Within b (negsuc n)
down_to b n h = record { low = omega (arith, ints); high = omega (arith, ints) }
