-- The quotient toward zero, as a floor.
use Rattle.std.proofs.Common.{◌≡◌, ℕ, suc, ◌+◌, ◌-◌, ◌/◌, ◌^◌, ◌<◌, ℤ, pos, negsuc, ◌+ℤ◌, ◌<ℤ◌, ◌≤ℤ◌, arith, refl, ap, ◌∙◌, inl, inr, lit<}
use Rattle.std.specs.Prelude.{int_div}
use Rattle.std.specs.Int.{int_shr}
use Rattle.std.specs.Int.Signed.{shr_z}
use Rattle.std.proofs.lemmas.Int.{ints}
use Rattle.std.proofs.lemmas.Bool.{cases_lt}
use Rattle.std.proofs.Math.Nat.{add-div_right, div-eq_of_lt, one-le-pow}

next_quotient : (a d : ℕ) → 0 < d → (a + d) / d ≡ suc (a / d)
next_quotient a d h = add-div_right a h ∙ omega arith

pub raised_shift : (m d : ℕ) → 0 < d → shr_z (negsuc m +ℤ pos (d - 1)) d ≡ int_div (negsuc m) (pos d)
raised_shift m d h = elim (cases_lt (suc m) d) [
  | inl small ↦
      let e : negsuc m +ℤ pos (d - 1) ≡ pos (d - 1 - suc m) = omega (arith, ints) in
      let less : d - 1 - suc m < d = omega arith in
      rw (e, div-eq_of_lt less, div-eq_of_lt small) refl
  | inr large ↦
      let e : negsuc m +ℤ pos (d - 1) ≡ negsuc (suc m - d) = omega (arith, ints) in
      let whole : suc m ≡ suc m - d + d = omega arith in
      let f : suc m / d ≡ suc ((suc m - d) / d) = ap (λ (n : ℕ). n / d) whole ∙ next_quotient (suc m - d) d h in
      rw (e, f) refl
]

pub raised_floor : (v r q : ℤ) (bits : ℕ) → (v <ℤ pos 0 → r ≡ v +ℤ pos (2 ^ bits - 1)) → (pos 0 ≤ℤ v → r ≡ v) → q ≡ int_shr r bits → q ≡ int_div v (pos (2 ^ bits))
raised_floor (pos n) r q bits below rest e = e ∙ ap (λ (z : ℤ). int_shr z bits) (rest (omega (arith, ints)))
raised_floor (negsuc m) r q bits below rest e = e ∙ ap (λ (z : ℤ). int_shr z bits) (below (omega (arith, ints))) ∙ raised_shift m (2 ^ bits) (one-le-pow bits 2 (lit< tt))
