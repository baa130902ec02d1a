-- How large truncated and quantised numbers are.
use Rattle.std.proofs.Common.{◌≡◌, ℕ, suc, zero, ◌-◌, ◌/◌, ◌^◌, ◌<◌, ◌≤◌, ℤ, pos, negsuc, neg_ℤ, List, length, arith, ap, ◌∙◌, lit<}
use Rattle.std.specs.Prelude.{int_div}
use Rattle.std.specs.Int.{int_shr}
use Rattle.std.proofs.lemmas.Int.{ints}
use Rattle.std.proofs.Math.Nat.{div-le_self, div-lt_iff_lt-mul, pow-le-pow_right}
use Rattle.gfx_dwt.specs.declared.layout.Transform.{Transform}
use Rattle.gfx_dwt.specs.declared.layout.Band.{Band}
use Rattle.gfx_dwt.specs.declared.layout.Band.TheVariants.{Ll3}
use Rattle.gfx_dwt.specs.Place.{LiesIn}
use Rattle.gfx_dwt.specs.Ranges.{AllCoefficients, AllWithin, IsCoefficient, Within, at}
use Rattle.gfx_quant.specs.declared.rounding.Rounding.{Rounding}
use Rattle.gfx_quant.specs.declared.rounding.Rounding.TheVariants.{Zero, Nearest}
use Rattle.gfx_quant.specs.Coefficient.{truncated, quantised}
use Rattle.gfx_quant.specs.Planes.{MapsBands}
use Rattle.gfx_quant.specs.Quant.{value_of}
use Rattle.gfx_quant.proofs.Everywhere.{some_band}
use Rattle.gfx_quant.proofs.Nearest.{nearest_small}

minus_within : (b x : ℕ) → x ≤ b → Within b (neg_ℤ (pos x))
minus_within b zero h = record { low = omega (arith, ints); high = omega (arith, ints) }
minus_within b (suc x) h = record { low = omega (arith, ints); high = omega (arith, ints) }

floor_within : (b : ℕ) (z : ℤ) (bits : ℕ) → Within b z → Within b (int_shr z bits)
floor_within b (pos n) bits h =
    let less : n / 2 ^ bits ≤ n = div-le_self n (2 ^ bits) in
    record { low = omega (arith, ints); high = omega (arith, ints) }
floor_within b (negsuc n) bits h =
    let less : n / 2 ^ bits ≤ n = div-le_self n (2 ^ bits) in
    record { low = omega (arith, ints); high = omega (arith, ints) }

quotient_within : (b : ℕ) (z : ℤ) (bits : ℕ) → Within b z → Within b (int_div z (pos (2 ^ bits)))
quotient_within b (pos n) bits h =
    let less : n / 2 ^ bits ≤ n = div-le_self n (2 ^ bits) in
    record { low = omega (arith, ints); high = omega (arith, ints) }
quotient_within b (negsuc n) bits h =
    let less : suc n / 2 ^ bits ≤ suc n = div-le_self (suc n) (2 ^ bits) in
    minus_within b (suc n / 2 ^ bits) (omega (arith, ints))

-- truncating makes no number larger
pub truncated_within : (band : Band) (b : ℕ) (z : ℤ) (bits : ℕ) → Within b z → Within b (truncated band z bits)
unfolding truncated
truncated_within Ll3 b z bits h = floor_within b z bits h
truncated_within _ b z bits h = quotient_within b z bits h

below_1024 : (n d : ℕ) → 32 ≤ d → n < 32768 → n / d < 1024
below_1024 n d h l = (div-lt_iff_lt-mul (omega arith)).1 (omega arith)

floor_small : (z : ℤ) (bits : ℕ) → 5 ≤ bits → IsCoefficient z → Within 1024 (int_shr z bits)
floor_small (pos n) bits h l =
    let wide : 2 ^ 5 ≤ 2 ^ bits = pow-le-pow_right (lit< tt) h in
    let less : n / 2 ^ bits < 1024 = below_1024 n (2 ^ bits) wide (omega (arith, ints)) in
    record { low = omega (arith, ints); high = omega (arith, ints) }
floor_small (negsuc n) bits h l =
    let wide : 2 ^ 5 ≤ 2 ^ bits = pow-le-pow_right (lit< tt) h in
    let less : n / 2 ^ bits < 1024 = below_1024 n (2 ^ bits) wide (omega (arith, ints)) in
    record { low = omega (arith, ints); high = omega (arith, ints) }

below_1025 : (n d : ℕ) → 32 ≤ d → n ≤ 32768 → n / d < 1025
below_1025 n d h l = (div-lt_iff_lt-mul (omega arith)).1 (omega arith)

quotient_small : (z : ℤ) (bits : ℕ) → 5 ≤ bits → IsCoefficient z → Within 1024 (int_div z (pos (2 ^ bits)))
quotient_small (pos n) bits h l =
    let wide : 2 ^ 5 ≤ 2 ^ bits = pow-le-pow_right (lit< tt) h in
    let less : n / 2 ^ bits < 1024 = below_1024 n (2 ^ bits) wide (omega (arith, ints)) in
    record { low = omega (arith, ints); high = omega (arith, ints) }
quotient_small (negsuc n) bits h l =
    let wide : 2 ^ 5 ≤ 2 ^ bits = pow-le-pow_right (lit< tt) h in
    let less : suc n / 2 ^ bits < 1025 = below_1025 (suc n) (2 ^ bits) wide (omega (arith, ints)) in
    minus_within 1024 (suc n / 2 ^ bits) (omega arith)

truncated_small : (band : Band) (z : ℤ) (bits : ℕ) → 5 ≤ bits → IsCoefficient z → Within 1024 (truncated band z bits)
unfolding truncated
truncated_small Ll3 z bits h l = floor_small z bits h l
truncated_small _ z bits h l = quotient_small z bits h l

-- a coefficient is quantised by a base of 6 to 15 to at most 1,024
pub quantised_small : (rounding : Rounding) (band : Band) (c : ℤ) (base : ℕ) → 6 ≤ base → base < 16 → IsCoefficient c → Within 1024 (quantised rounding band c base)
quantised_small Zero band c base h m l = truncated_small band c (base - 1) (omega arith) l
quantised_small Nearest band c base h m l = nearest_small band c base h (omega arith) l

pub plane_truncated_within : (t : Transform) (numbers : List ℕ) (b : ℕ) (source new : List ℤ) → length source ≡ 4096 → length new ≡ 4096 → MapsBands t (λ band v. truncated band v (value_of numbers band)) source new → AllWithin b source → AllWithin b new
plane_truncated_within t numbers b source new len len' maps small k h =
    let place : (band : Band) × LiesIn t band k = some_band t k (omega arith) in
    rw (maps place.0 k place.1) (truncated_within place.0 b (at source k) (value_of numbers place.0) (small k (omega arith)))

pub plane_quantised_small : (rounding : Rounding) (t : Transform) (numbers : List ℕ) (source new : List ℤ) → length source ≡ 4096 → length new ≡ 4096 → ((band : Band) → 6 ≤ value_of numbers band) → ((band : Band) → value_of numbers band < 16) → MapsBands t (λ band c. quantised rounding band c (value_of numbers band)) source new → AllCoefficients source → AllWithin 1024 new
plane_quantised_small rounding t numbers source new len len' least most maps small k h =
    let place : (band : Band) × LiesIn t band k = some_band t k (omega arith) in
    rw (maps place.0 k place.1) (quantised_small rounding place.0 (at source k) (value_of numbers place.0) (least place.0) (most place.0) (small k (omega arith)))

pub fewer_by_none : (t : Transform) (numbers : List ℕ) (source new : List ℤ) → MapsBands t (λ band v. truncated band v (value_of numbers band - 0)) source new → MapsBands t (λ band v. truncated band v (value_of numbers band)) source new
fewer_by_none t numbers source new maps band k lies =
    let same : value_of numbers band - 0 ≡ value_of numbers band = omega arith in
    maps band k lies ∙ ap (truncated band (at source k)) same
