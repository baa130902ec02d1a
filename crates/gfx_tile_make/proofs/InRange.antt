-- The sums of a tile stay in range, and its values are small.
use Rattle.std.proofs.Common.{◌≡◌, ◌∙◌, ℕ, zero, suc, ◌+◌, ◌-◌, ◌*◌, ◌/◌, ◌^◌, ◌<◌, ◌≤◌, true, ℤ, pos, negsuc, neg_ℤ, ◌*ℤ◌, refl, sym, ap, subst, arith, lit<, mul-div_cancel}
use Rattle.std.specs.Prelude.{int_div}
use Rattle.std.specs.Int.{int_shr}
use Rattle.std.specs.Int.Signed.{shr_z}
use Rattle.std.proofs.lemmas.Int.{ints}
use Rattle.std.proofs.lemmas.Nat.{le-div, pow-add, pow_pos}
use Rattle.std.proofs.lemmas.List.{get_or-replicate}
use Rattle.std.proofs.Math.Nat.{div-mul-le_self, div-lt_iff_lt-mul, mul-le-mul_left, mul-le-mul_right, pow-le-pow_right, zero-div}
use Rattle.std.proofs.Math.IntN.{pos-*ℤ-pos, negsuc-*ℤ-pos}
use Rattle.gfx_dwt.specs.declared.layout.Band.{Band}
use Rattle.gfx_dwt.specs.declared.layout.Band.TheVariants.{Ll3}
use Rattle.gfx_dwt.specs.Ranges.{IsCoefficient, Within, at}
use Rattle.gfx_quant.specs.declared.rounding.Rounding.{Rounding}
use Rattle.gfx_quant.specs.declared.rounding.Rounding.TheVariants.{Zero, Nearest}
use Rattle.gfx_quant.specs.Coefficient.{coefficient_of, cut, is_coefficient, quantised, truncated}
use Rattle.gfx_quant.proofs.Nearest.{nearest_fits}
use Rattle.gfx_tile_state.specs.Passes.{blank}
use Rattle.gfx_tile_state.proofs.Places.{is-coefficient, tests}
use Rattle.gfx_tile_make.proofs.Gains.{two-steps, minus-times}

-- ---- a coefficient without its low bits

floor-small : (n d m : ℕ) → 0 < d → n < d * m → suc (n / d) * d ≤ d * m
floor-small n d m some h =
    let less : n / d < m = (div-lt_iff_lt-mul some).1 (omega arith) in
    omega (arith, mul-le-mul_right d (let e : suc (n / d) ≤ m = omega arith in e))

halves : (e : ℕ) → e ≤ 15 → 2 ^ e * 2 ^ (15 - e) ≡ 32768
halves e h = sym (pow-add 2 e (15 - e)) ∙ ap (λ n. 2 ^ n) {x = e + (15 - e)} {y = 15} (omega arith)

minus-small : (x : ℕ) → x ≤ 32768 → IsCoefficient (neg_ℤ (pos x))
minus-small zero h = record { least = omega (arith, ints); most = omega (arith, ints) }
minus-small (suc x) h = record { least = omega (arith, ints); most = omega (arith, ints) }

up-kept : (n d : ℕ) → n < 32768 → IsCoefficient (pos (n / d) *ℤ pos d)
up-kept n d h = rw (pos-*ℤ-pos (n / d) d) (record { least = omega (arith, ints); most = omega (arith, ints, div-mul-le_self n d) })

floor-kept : (c : ℤ) (e : ℕ) → e ≤ 15 → IsCoefficient c → IsCoefficient (int_shr c e *ℤ pos (2 ^ e))
floor-kept (pos n) e h l = up-kept n (2 ^ e) (omega (arith, ints, l.most))
floor-kept (negsuc n) e h l =
    rw (negsuc-*ℤ-pos (n / 2 ^ e) (2 ^ e))
    (minus-small (suc (n / 2 ^ e) * 2 ^ e) (omega (arith, halves e h, floor-small n (2 ^ e) (2 ^ (15 - e)) (pow_pos e) (let less : n < 32768 = omega (arith, ints, l.least) in omega (arith, halves e h)))))

quotient-kept : (c : ℤ) (e : ℕ) → IsCoefficient c → IsCoefficient (int_div c (pos (2 ^ e)) *ℤ pos (2 ^ e))
quotient-kept (pos n) e l = up-kept n (2 ^ e) (omega (arith, ints, l.most))
quotient-kept (negsuc n) e l =
    rw (minus-times (suc n / 2 ^ e) (2 ^ e)) (minus-small (suc n / 2 ^ e * 2 ^ e) (let less : suc n ≤ 32768 = omega (arith, ints, l.least) in omega (arith, div-mul-le_self (suc n) (2 ^ e))))

kept-small : (band : Band) (c : ℤ) (e : ℕ) → e ≤ 15 → IsCoefficient c → IsCoefficient (truncated band c e *ℤ pos (2 ^ e))
unfolding truncated
kept-small Ll3 c e h l = floor-kept c e h l
kept-small _ c e h l = quotient-kept c e l

-- ---- low bits left out twice

floor-twice : (c : ℤ) (a p : ℕ) → int_shr (int_shr c a) p ≡ int_shr c (a + p)
floor-twice (pos n) a p = ap (λ q. pos q) (sym (two-steps n a p))
floor-twice (negsuc n) a p = ap negsuc (sym (two-steps n a p))

quotient-minus : (x d : ℕ) → int_div (neg_ℤ (pos x)) (pos d) ≡ neg_ℤ (pos (x / d))
quotient-minus zero d = rw (zero-div d) refl
quotient-minus (suc x) d = refl

quotient-twice : (c : ℤ) (a p : ℕ) → int_div (int_div c (pos (2 ^ a))) (pos (2 ^ p)) ≡ int_div c (pos (2 ^ (a + p)))
quotient-twice (pos n) a p = ap (λ q. pos q) (sym (two-steps n a p))
quotient-twice (negsuc n) a p = quotient-minus (suc n / 2 ^ a) (2 ^ p) ∙ ap (λ q. neg_ℤ (pos q)) (sym (two-steps (suc n) a p))

truncated-twice : (band : Band) (c : ℤ) (a p : ℕ) → truncated band (truncated band c a) p ≡ truncated band c (a + p)
unfolding truncated
truncated-twice Ll3 c a p = floor-twice c a p
truncated-twice _ c a p = quotient-twice c a p

cut-coefficient : (z : ℤ) → IsCoefficient (cut z)
cut-coefficient (pos n) = record { least = omega (arith, ints); most = omega (arith, ints) }
cut-coefficient (negsuc n) = record { least = omega (arith, ints); most = omega (arith, ints) }

-- so the sum of a coefficient's value at a level is in range
twice-fits : (band : Band) (c : ℤ) (base level : ℕ) → 1 ≤ base → base + level ≤ 15 → IsCoefficient c → is_coefficient (coefficient_of (truncated band (truncated band c (base - 1)) level) (base + level)) ≡ true
twice-fits band c base level some h l =
    ap (λ v. is_coefficient (coefficient_of v (base + level))) (truncated-twice band c (base - 1) level)
    ∙ ap (λ n. is_coefficient (truncated band c n *ℤ pos (2 ^ (base + level - 1)))) {x = base - 1 + level} {y = base + level - 1} (omega arith)
    ∙ tests _ (kept-small band c (base + level - 1) (omega arith) l)

-- a multiple and its quotient
floor-back : (v : ℤ) (d : ℕ) → 0 < d → shr_z (v *ℤ pos d) d ≡ v
floor-back (pos n) d some = ap (λ q. pos q) (mul-div_cancel n some)
floor-back (negsuc n) d some =
    let e : suc n * d ≡ suc (suc n * d - 1) = omega arith in
    let least : n ≤ (suc n * d - 1) / d = le-div n (suc n * d - 1) d some (omega arith) in
    let most : (suc n * d - 1) / d < suc n = (div-lt_iff_lt-mul some).1 (omega arith) in
    rw (negsuc-*ℤ-pos n d, e) (ap negsuc {x = (suc n * d - 1) / d} {y = n} (omega arith))

quotient-back : (v : ℤ) (d : ℕ) → 0 < d → int_div (v *ℤ pos d) (pos d) ≡ v
quotient-back (pos n) d some = ap (λ q. pos q) (mul-div_cancel n some)
quotient-back (negsuc n) d some = rw (negsuc-*ℤ-pos n d) (quotient-minus (suc n * d) d ∙ ap (λ q. neg_ℤ (pos q)) (mul-div_cancel (suc n) some))

truncated-back : (band : Band) (v : ℤ) (e : ℕ) → truncated band (v *ℤ pos (2 ^ e)) e ≡ v
unfolding truncated
truncated-back Ll3 v e = floor-back v (2 ^ e) (pow_pos e)
truncated-back _ v e = quotient-back v (2 ^ e) (pow_pos e)

-- the sum at a level of a value that has a coefficient
value-fits : (band : Band) (v : ℤ) (base level : ℕ) → 1 ≤ base → base + level ≤ 15 → IsCoefficient (coefficient_of v base) → is_coefficient (coefficient_of (truncated band v level) (base + level)) ≡ true
value-fits band v base level some h l =
    ap (λ z. is_coefficient (coefficient_of (truncated band z level) (base + level))) (sym (truncated-back band v (base - 1)))
    ∙ twice-fits band (coefficient_of v base) base level some h l

-- the sum of a quantised coefficient at a level is in range
pub quantised-fits : (rounding : Rounding) (band : Band) (z : ℤ) (base level : ℕ) → 2 ≤ base → base + level ≤ 15 → is_coefficient (coefficient_of (truncated band (quantised rounding band (cut z) base) level) (base + level)) ≡ true
quantised-fits Zero band z base level some h = twice-fits band (cut z) base level (omega arith) h (cut-coefficient z)
quantised-fits Nearest band z base level some h = value-fits band (quantised Nearest band (cut z) base) base level (omega arith) h (nearest_fits band (cut z) base some (omega arith) (cut-coefficient z))

-- ---- values are small

pub small-value : (v : ℤ) (base : ℕ) → 6 ≤ base → is_coefficient (coefficient_of v base) ≡ true → Within 1024 v
small-value (pos n) base h e =
    let few : 5 ≤ base - 1 = omega arith in
    let wide : 2 ^ 5 ≤ 2 ^ (base - 1) = pow-le-pow_right (lit< tt) few in
    let inside : IsCoefficient (pos (n * 2 ^ (base - 1))) = subst IsCoefficient (pos-*ℤ-pos n (2 ^ (base - 1))) (is-coefficient _ e) in
    let most : n * 2 ^ 5 ≤ n * 2 ^ (base - 1) = mul-le-mul_left n wide in
    let less : n < 1024 = omega (arith, ints, inside.most) in
    record { low = omega (arith, ints); high = omega (arith, ints) }
small-value (negsuc n) base h e =
    let few : 5 ≤ base - 1 = omega arith in
    let wide : 2 ^ 5 ≤ 2 ^ (base - 1) = pow-le-pow_right (lit< tt) few in
    let inside : IsCoefficient (neg_ℤ (pos (suc n * 2 ^ (base - 1)))) = subst IsCoefficient (negsuc-*ℤ-pos n (2 ^ (base - 1))) (is-coefficient _ e) in
    let most : suc n * 2 ^ 5 ≤ suc n * 2 ^ (base - 1) = mul-le-mul_left (suc n) wide in
    let less : suc n ≤ 1024 = omega (arith, ints, inside.least) in
    record { low = omega (arith, ints); high = omega (arith, ints) }

-- nothing left out
pub truncated-none : (band : Band) (v : ℤ) → truncated band v 0 ≡ v
unfolding truncated
truncated-none Ll3 (pos n) = ap (λ q. pos q) {x = n / 2 ^ 0} {y = n} (omega arith)
truncated-none Ll3 (negsuc n) = ap negsuc {x = n / 2 ^ 0} {y = n} (omega arith)
truncated-none _ (pos n) = ap (λ q. pos q) {x = n / 2 ^ 0} {y = n} (omega arith)
truncated-none _ (negsuc n) = ap (λ q. neg_ℤ (pos q)) {x = suc n / 2 ^ 0} {y = suc n} (omega arith)

-- a plane of zeros
pub at-blank : (k : ℕ) → k < 4096 → at blank k ≡ pos 0
at-blank k h = get_or-replicate 4096 k (pos 0) (pos 0) h

pub nothing-of : (s : ℕ) → coefficient_of (pos 0) s ≡ pos 0
nothing-of s = ap (λ n. pos n) {x = 0 * 2 ^ (s - 1)} {y = 0} (omega arith)
