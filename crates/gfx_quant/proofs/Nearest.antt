-- The nearest values: as floors, and how large they are.
use Rattle.std.proofs.Common.{◌≡◌, ℕ, suc, zero, ◌+◌, ◌-◌, ◌*◌, ◌/◌, ◌^◌, ◌<◌, ◌≤◌, min, true, ℤ, pos, negsuc, neg_ℤ, ◌+ℤ◌, ◌-ℤ◌, ◌*ℤ◌, ◌<ℤ◌, ◌≤ℤ◌, refl, sym, ap, ◌∙◌, arith, lit<}
use Rattle.std.specs.Int.{int_shr}
use Rattle.std.proofs.lemmas.Int.{ints}
use Rattle.std.proofs.lemmas.Nat.{pow-add, pow_pos, div-add-mod', mod_below}
use Rattle.std.proofs.Math.Nat.{div-mul-le_self, div-lt_iff_lt-mul, mul-le-mul_left, mul-le-mul_right, pow-le-pow_right}
use Rattle.std.proofs.Math.IntN.{pos-*ℤ-pos, negsuc-*ℤ-pos}
use Rattle.gfx_dwt.specs.declared.layout.Band.{Band}
use Rattle.gfx_dwt.specs.declared.layout.Band.TheVariants.{Hl1, Ll3}
use Rattle.gfx_dwt.specs.Ranges.{IsCoefficient, Within}
use Rattle.gfx_quant.specs.Coefficient.{capped, coefficient_of, is_coefficient, nearest}
use Rattle.gfx_quant.specs.Planes.{has_coefficient}
use Rattle.gfx_quant.proofs.Quotients.{raised_shift}

-- what a value counts for is twice its half, and so often in 32,768
two_halves : (base : ℕ) → 2 ≤ base → 2 ^ (base - 1) ≡ 2 ^ (base - 2) + 2 ^ (base - 2)
two_halves base h = ap (λ n. 2 ^ n) {x = base - 1} {y = base - 2 + 1} (omega arith) ∙ pow-add 2 (base - 2) 1 ∙ omega arith

steps_in : (base : ℕ) → 1 ≤ base → base ≤ 16 → 2 ^ (16 - base) * 2 ^ (base - 1) ≡ 32768
steps_in base h l = sym (pow-add 2 (16 - base) (base - 1)) ∙ ap (λ n. 2 ^ n) {x = 16 - base + (base - 1)} {y = 15} (omega arith)

-- ---- as floors

-- outside LL3 the nearest value is the floor of what is a half farther up, less one below nought
pub spread_floor : (c r : ℤ) (base : ℕ) → 2 ≤ base → (c <ℤ pos 0 → r ≡ c +ℤ pos (2 ^ (base - 2) - 1)) → (pos 0 ≤ℤ c → r ≡ c +ℤ pos (2 ^ (base - 2))) → int_shr r (base - 1) ≡ nearest Hl1 c base
unfolding nearest
spread_floor (pos n) r base h below rest = ap (λ (z : ℤ). int_shr z (base - 1)) (rest (omega (arith, ints)))
spread_floor (negsuc m) r base h below rest =
    let half : ℕ = 2 ^ (base - 2) in
    let some : 0 < 2 ^ (base - 2) = pow_pos (base - 2) in
    let e : negsuc m +ℤ pos (2 ^ (base - 2) - 1) ≡ negsuc (m + 2 ^ (base - 2)) +ℤ pos (2 ^ (base - 1) - 1) = omega (arith, ints, two_halves base h) in
    ap (λ (z : ℤ). int_shr z (base - 1)) (below (omega (arith, ints)) ∙ e) ∙ raised_shift (m + 2 ^ (base - 2)) (2 ^ (base - 1)) (pow_pos (base - 1))
    ∙ ap (λ n. neg_ℤ (pos (n / 2 ^ (base - 1)))) {x = suc (m + 2 ^ (base - 2))} {y = suc m + 2 ^ (base - 2)} (omega arith)

-- ---- how large they are

minus_times : (q d : ℕ) → neg_ℤ (pos q) *ℤ pos d ≡ neg_ℤ (pos (q * d))
minus_times zero d = omega (arith, ints)
minus_times (suc q) d = negsuc-*ℤ-pos q d

minus_coefficient : (x : ℕ) → x ≤ 32768 → IsCoefficient (neg_ℤ (pos x))
minus_coefficient zero h = record { least = omega (arith, ints); most = omega (arith, ints) }
minus_coefficient (suc x) h = record { least = omega (arith, ints); most = omega (arith, ints) }

-- a value that isn't too far below nought is capped to one that has a coefficient
capped_fits : (v : ℤ) (base steps : ℕ) → steps * 2 ^ (base - 1) ≡ 32768 → neg_ℤ (pos steps) ≤ℤ v → IsCoefficient (coefficient_of (capped v base) base)
capped_fits (pos n) base steps e low =
    let most : ℕ = 32767 / 2 ^ (base - 1) in
    let few : min n (32767 / 2 ^ (base - 1)) ≤ 32767 / 2 ^ (base - 1) = omega arith in
    rw (pos-*ℤ-pos (min n (32767 / 2 ^ (base - 1))) (2 ^ (base - 1)))
    (record { least = omega (arith, ints); most = omega (arith, ints, mul-le-mul_right (2 ^ (base - 1)) few, div-mul-le_self 32767 (2 ^ (base - 1))) })
capped_fits (negsuc n) base steps e low =
    let few : suc n ≤ steps = omega (arith, ints) in
    rw (negsuc-*ℤ-pos n (2 ^ (base - 1))) (minus_coefficient (suc n * 2 ^ (base - 1)) (omega (arith, e, mul-le-mul_right (2 ^ (base - 1)) few)))

-- a quotient of what is below a multiple
below_steps : (n d steps : ℕ) → 0 < d → n < (steps + 1) * d → n / d ≤ steps
below_steps n d steps some h = let less : n / d < steps + 1 = (div-lt_iff_lt-mul some).1 h in omega arith

floor_low : (z : ℤ) (bits steps : ℕ) → steps * 2 ^ bits ≡ 32768 → negsuc 32767 ≤ℤ z → neg_ℤ (pos steps) ≤ℤ int_shr z bits
floor_low (pos n) bits steps e low = minus_below steps (n / 2 ^ bits)
  where
    minus_below : (x y : ℕ) → neg_ℤ (pos x) ≤ℤ pos y
    minus_below zero y = omega (arith, ints)
    minus_below (suc x) y = omega (arith, ints)
floor_low (negsuc n) bits steps e low =
    let small : n < 32768 = omega (arith, ints) in
    let less : n / 2 ^ bits < steps = (div-lt_iff_lt-mul (pow_pos bits)).1 (omega arith) in
    omega (arith, ints)

nearest_low : (band : Band) (c : ℤ) (base steps : ℕ) → 2 ≤ base → steps * 2 ^ (base - 1) ≡ 32768 → IsCoefficient c → neg_ℤ (pos steps) ≤ℤ nearest band c base
unfolding nearest
nearest_low Ll3 c base steps h e l = floor_low (c +ℤ pos (2 ^ (base - 2))) (base - 1) steps e (omega (arith, ints, l.least))
nearest_low _ (pos n) base steps h e l = omega (arith, ints)
nearest_low _ (negsuc n) base steps h e l =
    let some : 0 < 2 ^ (base - 2) = pow_pos (base - 2) in
    let small : suc n ≤ 32768 = omega (arith, ints, l.least) in
    let less : (suc n + 2 ^ (base - 2)) / 2 ^ (base - 1) ≤ steps = below_steps (suc n + 2 ^ (base - 2)) (2 ^ (base - 1)) steps (pow_pos (base - 1)) (omega (arith, e, two_halves base h)) in
    omega (arith, ints)

-- so each nearest value has a coefficient
pub nearest_fits : (band : Band) (c : ℤ) (base : ℕ) → 2 ≤ base → base ≤ 16 → IsCoefficient c → IsCoefficient (coefficient_of (capped (nearest band c base) base) base)
nearest_fits band c base h l is = capped_fits (nearest band c base) base (2 ^ (16 - base)) (steps_in base (omega arith) l) (nearest_low band c base (2 ^ (16 - base)) h (steps_in base (omega arith) l) is)

is_tested : (z : ℤ) → IsCoefficient z → is_coefficient z ≡ true
is_tested (pos n) h = let small : n < 32768 = omega (arith, ints, h.most) in grind (arith, ints)
is_tested (negsuc n) h = let small : n < 32768 = omega (arith, ints, h.least) in grind (arith, ints)

pub nearest_has : (band : Band) (c : ℤ) (base : ℕ) → 2 ≤ base → base ≤ 16 → IsCoefficient c → has_coefficient base (capped (nearest band c base) base) ≡ true
nearest_has band c base h l is = is_tested _ (nearest_fits band c base h l is)

small_of_scaled : (v : ℤ) (base : ℕ) → 6 ≤ base → IsCoefficient (coefficient_of v base) → Within 1024 v
small_of_scaled (pos n) base h is =
    let few : 5 ≤ base - 1 = omega arith in
    let wide : 2 ^ 5 ≤ 2 ^ (base - 1) = pow-le-pow_right (lit< tt) few in
    let inside : IsCoefficient (pos (n * 2 ^ (base - 1))) = is in
    let more : n * 2 ^ 5 ≤ n * 2 ^ (base - 1) = mul-le-mul_left n wide in
    let less : n < 1024 = omega (arith, ints, inside.most) in
    record { low = omega (arith, ints); high = omega (arith, ints) }
small_of_scaled (negsuc n) base h is =
    let few : 5 ≤ base - 1 = omega arith in
    let wide : 2 ^ 5 ≤ 2 ^ (base - 1) = pow-le-pow_right (lit< tt) few in
    let inside : IsCoefficient (neg_ℤ (pos (suc n * 2 ^ (base - 1)))) = is in
    let more : suc n * 2 ^ 5 ≤ suc n * 2 ^ (base - 1) = mul-le-mul_left (suc n) wide in
    let less : suc n ≤ 1024 = omega (arith, ints, inside.least) in
    record { low = omega (arith, ints); high = omega (arith, ints) }

pub nearest_small : (band : Band) (c : ℤ) (base : ℕ) → 6 ≤ base → base ≤ 16 → IsCoefficient c → Within 1024 (capped (nearest band c base) base)
nearest_small band c base h l is = small_of_scaled _ base h (nearest_fits band c base (omega arith) l is)

-- ---- how near they are

up_near : (n half d : ℕ) → d ≡ half + half → 0 < d → Within half (pos n -ℤ pos ((n + half) / d * d))
up_near n half d e some =
    let whole = div-add-mod' (n + half) d in
    let rest = mod_below (n + half) d some in
    record { low = omega (arith, ints, whole, rest); high = omega (arith, ints, whole, rest) }

down_near : (n half d : ℕ) → d ≡ half + half → 0 < d → Within half (negsuc n -ℤ neg_ℤ (pos ((suc n + half) / d * d)))
down_near n half d e some =
    let whole = div-add-mod' (suc n + half) d in
    let rest = mod_below (suc n + half) d some in
    record { low = omega (arith, ints, whole, rest); high = omega (arith, ints, whole, rest) }

floor_near : (c z : ℤ) (half bits : ℕ) → z ≡ c +ℤ pos half → 2 ^ bits ≡ half + half → Within half (c -ℤ int_shr z bits *ℤ pos (2 ^ bits))
floor_near c (pos n) half bits f e =
    let whole = div-add-mod' n (2 ^ bits) in
    let rest = mod_below n (2 ^ bits) (pow_pos bits) in
    rw (pos-*ℤ-pos (n / 2 ^ bits) (2 ^ bits))
    (record { low = omega (arith, ints, whole, rest); high = omega (arith, ints, whole, rest) })
floor_near c (negsuc n) half bits f e =
    let whole = div-add-mod' n (2 ^ bits) in
    let rest = mod_below n (2 ^ bits) (pow_pos bits) in
    let more : suc (n / 2 ^ bits) * 2 ^ bits ≡ n / 2 ^ bits * 2 ^ bits + 2 ^ bits = omega arith in
    rw (negsuc-*ℤ-pos (n / 2 ^ bits) (2 ^ bits))
    (record { low = omega (arith, ints, whole, rest, more); high = omega (arith, ints, whole, rest, more) })

pub nearest_near : (band : Band) (c : ℤ) (base : ℕ) → 2 ≤ base → Within (2 ^ (base - 2)) (c -ℤ coefficient_of (nearest band c base) base)
unfolding nearest
nearest_near Ll3 c base h = floor_near c (c +ℤ pos (2 ^ (base - 2))) (2 ^ (base - 2)) (base - 1) refl (two_halves base h)
nearest_near _ (pos n) base h = rw (pos-*ℤ-pos ((n + 2 ^ (base - 2)) / 2 ^ (base - 1)) (2 ^ (base - 1))) (up_near n (2 ^ (base - 2)) (2 ^ (base - 1)) (two_halves base h) (pow_pos (base - 1)))
nearest_near _ (negsuc n) base h = rw (minus_times ((suc n + 2 ^ (base - 2)) / 2 ^ (base - 1)) (2 ^ (base - 1))) (down_near n (2 ^ (base - 2)) (2 ^ (base - 1)) (two_halves base h) (pow_pos (base - 1)))
