-- How large products and weights are.
use Rattle.std.proofs.Common.{◌≡◌, ℕ, List, ◌*◌, ◌^◌, ◌≤◌, ◌<◌, ℤ, pos, negsuc, ◌*ℤ◌, arith, to_z, of_z, w64, lit<}
use Rattle.std.proofs.lemmas.Int.{ints, unsigned_abs-mul, to_z-of_z}
use Rattle.std.proofs.Math.Nat.{mul-le-mul, pow-le-pow_right}
use Rattle.std.specs.Int.RustNames.{unsigned_abs}
use Rattle.std.specs.Int.{int_shr}
use lib.Signed.{mag}
use Rattle.gfx_dwt.specs.Ranges.{AllCoefficients, AllSamples, AllWithin, IsCoefficient, IsSample, Within, at}

within_of_abs : (b : ℕ) (z : ℤ) → unsigned_abs z ≤ b → Within b z
within_of_abs b (pos n) h = record { low = omega (arith, ints); high = omega (arith, ints) }
within_of_abs b (negsuc n) h = record { low = omega (arith, ints); high = omega (arith, ints) }

abs_of_within : (b : ℕ) (z : ℤ) → Within b z → unsigned_abs z ≤ b
abs_of_within b (pos n) h = omega (arith, ints)
abs_of_within b (negsuc n) h = omega (arith, ints)

product_within_of : (a b : ℕ) (x y : ℤ) → Within a x → Within b y → Within (a * b) (x *ℤ y)
product_within_of a b x y p q =
    within_of_abs (a * b) (x *ℤ y) (rw (unsigned_abs-mul x y) (mul-le-mul (abs_of_within a x p) (abs_of_within b y q)))

-- a product of a factor of the colour transforms and a sample
pub product_within : (product factor sample : ℤ) → product ≡ factor *ℤ sample → Within (2 ^ 17) factor → Within (2 ^ 23) sample → Within (2 ^ 40) product
product_within product factor sample e p q = rw e (product_within_of (2 ^ 17) (2 ^ 23) factor sample p q)

-- what a value is multiplied by
pub weight_within : (weight : ℤ) (bits : ℕ) → weight ≡ pos (2 ^ bits) → bits ≤ 29 → Within (2 ^ 29) weight
weight_within weight bits e h =
    let small : 2 ^ bits ≤ 2 ^ 29 = pow-le-pow_right (lit< tt) h in
    record { low = rw e (omega (arith, ints)); high = rw e (omega (arith, ints)) }

-- a number that fits 64 bits is read back from them
bits_of_small : (z : ℤ) → mag z < 2 ^ 63 → to_z w64 (of_z w64 z) ≡ z
bits_of_small z h = to_z-of_z w64 z (record { sfits = h })

pub bits_of_within : (b : ℕ) (z : ℤ) → b < 2 ^ 63 → Within b z → to_z w64 (of_z w64 z) ≡ z
bits_of_within b (pos n) l h = bits_of_small (pos n) (omega (arith, ints))
bits_of_within b (negsuc n) l h = bits_of_small (negsuc n) (omega (arith, ints))

-- a sample from its 2048-fold
sample_of_shifted : (z : ℤ) → Within (2 ^ 23) z → IsSample (int_shr z 11)
sample_of_shifted (pos n) h = record { least = omega (arith, ints); most = omega (arith, ints) }
sample_of_shifted (negsuc n) h = record { least = omega (arith, ints); most = omega (arith, ints) }

pub sample_of : (sample z : ℤ) → sample ≡ int_shr z 11 → Within (2 ^ 23) z → IsSample sample
sample_of sample z e h = rw e (sample_of_shifted z h)

-- what a call gives is taken by `to_colours`
pub samples_within : (xs : List ℤ) → AllSamples xs → AllWithin (2 ^ 23) xs
samples_within xs small k h =
    let here : IsSample (at xs k) = small k h in
    record { low = omega (arith, ints); high = omega (arith, ints) }

pub coefficients_within : (xs : List ℤ) → AllCoefficients xs → AllWithin (2 ^ 23) xs
coefficients_within xs small k h =
    let here : IsCoefficient (at xs k) = small k h in
    record { low = omega (arith, ints); high = omega (arith, ints) }

pub more_within : (a b : ℕ) (xs : List ℤ) → a ≤ b → AllWithin a xs → AllWithin b xs
more_within a b xs le small k h =
    let here : Within a (at xs k) = small k h in
    record { low = omega (arith, ints); high = omega (arith, ints) }
