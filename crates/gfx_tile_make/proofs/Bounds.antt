-- How large products and differences are.
use Rattle.std.proofs.Common.{◌≡◌, ℕ, ◌*◌, ◌^◌, ◌<◌, ◌≤◌, ℤ, pos, negsuc, ◌*ℤ◌, arith, lit<, to_z, of_z, w16, w32, w64, FitsSigned}
use Rattle.std.specs.Int.RustNames.{unsigned_abs}
use Rattle.std.proofs.lemmas.Int.{ints, to_z-of_z, unsigned_abs-mul}
use Rattle.std.proofs.Math.Nat.{mul-le-mul, pow-le-pow_right}
use Rattle.gfx_dwt.specs.Ranges.{Within}

pub within_of_abs : (b : ℕ) (z : ℤ) → unsigned_abs z ≤ b → Within b z
within_of_abs b (pos n) h = record { low = omega (arith, ints); high = omega (arith, ints) }
within_of_abs b (negsuc n) h = record { low = omega (arith, ints); high = omega (arith, ints) }

pub abs_of_within : (b : ℕ) (z : ℤ) → Within b z → unsigned_abs z ≤ b
abs_of_within b (pos n) h = omega (arith, ints)
abs_of_within b (negsuc n) h = omega (arith, ints)

pub product-within : (m n : ℕ) (a b product : ℤ) → product ≡ a *ℤ b → Within m a → Within n b → Within (m * n) product
product-within m n a b product e p q = within_of_abs (m * n) product (rw (e, unsigned_abs-mul a b) (mul-le-mul (abs_of_within m a p) (abs_of_within n b q)))

pub within-bits : (b : ℕ) (z : ℤ) → b < 2 ^ 31 → Within b z → to_z w32 (of_z w32 z) ≡ z
within-bits b (pos n) l h = to_z-of_z w32 (pos n) (record { sfits = omega (arith, ints, h.high) })
within-bits b (negsuc n) l h = to_z-of_z w32 (negsuc n) (record { sfits = omega (arith, ints, h.low) })

pub weight-within : (n m : ℕ) → n ≤ m → Within (2 ^ m) (pos (2 ^ n))
weight-within n m h =
    let small : 2 ^ n ≤ 2 ^ m = pow-le-pow_right (lit< tt) h in
    record { low = omega (arith, ints); high = omega (arith, ints) }

pub of-short : (z : ℤ) → FitsSigned w16 z → Within 32768 z
of-short (pos n) h = record { low = omega (arith, ints); high = omega (arith, ints, h.sfits) }
of-short (negsuc n) h = record { low = omega (arith, ints, h.sfits); high = omega (arith, ints) }

pub of-word : (z : ℤ) → FitsSigned w32 z → Within (2 ^ 31) z
of-word (pos n) h = record { low = omega (arith, ints); high = omega (arith, ints, h.sfits) }
of-word (negsuc n) h = record { low = omega (arith, ints, h.sfits); high = omega (arith, ints) }

pub wide-bits : (z : ℤ) → Within (2 ^ 62) z → to_z w64 (of_z w64 z) ≡ z
wide-bits (pos n) h = to_z-of_z w64 (pos n) (record { sfits = omega (arith, ints, h.high) })
wide-bits (negsuc n) h = to_z-of_z w64 (negsuc n) (record { sfits = omega (arith, ints, h.low) })
