-- Shifts to the left of what stays in 16 bits.
use Rattle.std.proofs.Common.{◌≡◌, ℕ, zero, suc, ◌^◌, ◌≤◌, ◌<◌, min, ℤ, pos, negsuc, ◌*ℤ◌, FitsSigned, of_z, w16, arith, refl, lit<, ◌∙◌, ap, ⊎_elim}
use Rattle.std.specs.Prelude.{◌⊎◌}
use Rattle.std.proofs.lemmas.Int.{ints, int_wrap_fits, to_z-of_z, wrapping_mul_onto}
use Rattle.std.proofs.Math.Nat.{pow-le-pow_right, mul-le-mul_right}
use Rattle.std.specs.Int.{int_shl}
use Rattle.gfx_dwt.specs.Ranges.{IsCoefficient}

coefficient_fits : (z : ℤ) → IsCoefficient z → FitsSigned w16 z
coefficient_fits (pos n) h = record { sfits = omega (arith, ints) }
coefficient_fits (negsuc n) h = record { sfits = omega (arith, ints) }

bits_fit : (z : ℤ) → FitsSigned w16 z → of_z w16 z < 2 ^ 16
bits_fit (pos n) h = omega (arith, h.sfits)
bits_fit (negsuc n) h = omega (arith, h.sfits)

-- by up to 14 the factor fits too
few : (v : ℤ) (by : ℕ) → by ≤ 14 → FitsSigned w16 v → IsCoefficient (v *ℤ pos (2 ^ by)) → int_shl w16 v by ≡ v *ℤ pos (2 ^ by)
few v by less fits here =
    let small : 2 ^ by ≤ 2 ^ 14 = pow-le-pow_right (lit< tt) less in
    let factor : FitsSigned w16 (pos (2 ^ by)) = record { sfits = omega arith } in
    wrapping_mul_onto w16 (of_z w16 v) (pos (2 ^ by)) (bits_fit v fits) factor
    ∙ rw (to_z-of_z w16 v fits) (int_wrap_fits w16 (v *ℤ pos (2 ^ by)) (coefficient_fits _ here))

-- by more only nought has a coefficient, and by 15 minus one
many : (v : ℤ) (by : ℕ) → 15 ≤ by → IsCoefficient (v *ℤ pos (2 ^ by)) → int_shl w16 v 15 ≡ v *ℤ pos (2 ^ by)
many (pos zero) by more here = omega (arith, ints)
many (pos (suc n)) by more here =
    let large : 2 ^ 15 ≤ 2 ^ by = pow-le-pow_right (lit< tt) more in
    let one : 1 ≤ suc n = omega arith in
    absurd (omega (arith, ints, here.least, here.most, mul-le-mul_right (2 ^ by) one))
many (negsuc zero) by more here = ⊎_elim
    (λ (e : by ≡ 15). rw e refl)
    (λ (h : 16 ≤ by).
    let large : 2 ^ 16 ≤ 2 ^ by = pow-le-pow_right (lit< tt) h in
    absurd (omega (arith, ints, here.least, here.most)))
    (either by more)
  where
    either : (n : ℕ) → 15 ≤ n → (n ≡ 15) ⊎ (16 ≤ n)
    either n h = grind arith
many (negsuc (suc n)) by more here =
    let large : 2 ^ 15 ≤ 2 ^ by = pow-le-pow_right (lit< tt) more in
    let two : 2 ≤ suc (suc n) = omega arith in
    absurd (omega (arith, ints, here.least, here.most, mul-le-mul_right (2 ^ by) two))

-- a shift whose result is a coefficient is a product
pub shl_is : (v : ℤ) (by : ℕ) → FitsSigned w16 v → IsCoefficient (v *ℤ pos (2 ^ by)) → int_shl w16 v (min by 15) ≡ v *ℤ pos (2 ^ by)
shl_is v by fits here = ⊎_elim
    (λ (h : by ≤ 14). ap (int_shl w16 v) {y = by} (omega arith) ∙ few v by h fits here)
    (λ (h : 15 ≤ by). ap (int_shl w16 v) {y = 15} (omega arith) ∙ many v by h here)
    (either by)
  where
    either : (n : ℕ) → (n ≤ 14) ⊎ (15 ≤ n)
    either n = grind arith
