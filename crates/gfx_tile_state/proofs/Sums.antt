-- How large what a pass adds is.
use Rattle.std.proofs.Common.{◌≡◌, ℕ, ◌+◌, ◌*◌, ◌^◌, ◌≤◌, ◌<◌, ◌-◌, true, refl, sym, to_z, of_z, w16, w32, w64, ℤ, pos, negsuc, arith, lit<}
use Rattle.std.proofs.lemmas.Int.{ints, unsigned_abs-mul, to_z-of_z}
use Rattle.std.proofs.Math.Nat.{add-mul, mul-le-mul, pow-le-pow_right}
use Rattle.std.proofs.lemmas.Nat.{pow-add, pow_pos}
use Rattle.std.specs.Int.{int_rem_euclid, int_wrap}
use Rattle.std.specs.Int.RustNames.{unsigned_abs}
use Rattle.gfx_dwt.specs.Ranges.{Within}
use Rattle.gfx_quant.specs.Coefficient.{coefficient_of, is_coefficient}
use Rattle.gfx_tile_state.specs.Entries.{wrapped}
use Rattle.gfx_tile_state.proofs.Places.{tests}

within_of_abs : (b : ℕ) (z : ℤ) → unsigned_abs z ≤ b → Within b z
within_of_abs b (pos n) h = record { low = omega (arith, ints); high = omega (arith, ints) }
within_of_abs b (negsuc n) h = record { low = omega (arith, ints); high = omega (arith, ints) }

abs_of_within : (b : ℕ) (z : ℤ) → Within b z → unsigned_abs z ≤ b
abs_of_within b (pos n) h = omega (arith, ints)
abs_of_within b (negsuc n) h = omega (arith, ints)

-- an entry at a bit position
pub times_within : (product entry : ℤ) (position : ℕ) → product ≡ coefficient_of entry position → position ≤ 30 → Within (2 ^ 24) entry → Within (2 ^ 53) product
times_within product entry position e h p =
    let few : position - 1 ≤ 29 = omega arith in
    let small : 2 ^ (position - 1) ≤ 2 ^ 29 = pow-le-pow_right (lit< tt) few in
    within_of_abs (2 ^ 53) product (rw (e, unsigned_abs-mul entry (pos (2 ^ (position - 1)))) (mul-le-mul (abs_of_within (2 ^ 24) entry p) small))

pub within_bits : (z : ℤ) (n : ℕ) → n ≤ 24 → unsigned_abs z < 2 ^ n → Within (2 ^ 24) z
within_bits z n few h =
    let most : 2 ^ n ≤ 2 ^ 24 = pow-le-pow_right (lit< tt) few in
    within_of_abs (2 ^ 24) z (omega arith)

pub small-bits : (z : ℤ) → Within (2 ^ 24) z → to_z w32 (of_z w32 z) ≡ z
small-bits (pos n) h = to_z-of_z w32 (pos n) (record { sfits = omega (arith, ints, h.high) })
small-bits (negsuc n) h = to_z-of_z w32 (negsuc n) (record { sfits = omega (arith, ints, h.low) })

pub large-bits : (z : ℤ) → Within (2 ^ 53) z → to_z w64 (of_z w64 z) ≡ z
large-bits (pos n) h = to_z-of_z w64 (pos n) (record { sfits = omega (arith, ints, h.high) })
large-bits (negsuc n) h = to_z-of_z w64 (negsuc n) (record { sfits = omega (arith, ints, h.low) })

-- what 16 bits hold of a number
pub sixteen-bits : (z : ℤ) → to_z w16 (unsigned_abs (int_rem_euclid z (pos 65536))) ≡ wrapped z
unfolding int_wrap
sixteen-bits z = refl

-- so few bits at so low a position leave no range
pub surely : (z : ℤ) (n position : ℕ) → unsigned_abs z < 2 ^ n → 1 ≤ position → n + position ≤ 16 → is_coefficient (coefficient_of z position) ≡ true
surely z n position small least few =
    let w : ℕ = 2 ^ (position - 1) in
    let some : 0 < w = pow_pos (position - 1) in
    let more : unsigned_abs z + 1 ≤ 2 ^ n = omega arith in
    let same : w ≤ w = omega arith in
    let rises : (unsigned_abs z + 1) * w ≤ 2 ^ n * w = mul-le-mul more same in
    let joined : 2 ^ n * w ≡ 2 ^ (n + (position - 1)) = sym (pow-add 2 n (position - 1)) in
    let low : n + (position - 1) ≤ 15 = omega arith in
    let most : 2 ^ (n + (position - 1)) ≤ 2 ^ 15 = pow-le-pow_right (lit< tt) low in
    let apart : (unsigned_abs z + 1) * w ≡ unsigned_abs z * w + 1 * w = add-mul (unsigned_abs z) 1 w in
    let size : unsigned_abs (coefficient_of z position) ≡ unsigned_abs z * w = unsigned_abs-mul z (pos w) in
    let under : unsigned_abs (coefficient_of z position) ≤ 32767 = omega (arith, rises, joined, most, apart, size, some) in
    let within = within_of_abs 32767 (coefficient_of z position) under in
    tests (coefficient_of z position) (record { least = omega (arith, ints, within.low); most = within.high })
