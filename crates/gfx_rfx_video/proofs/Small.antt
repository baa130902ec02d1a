-- Values as small as those of the plain transform are as small as those of either.
use Rattle.std.proofs.Common.{ℕ, ◌+◌, ◌-◌, ◌<◌, ◌≤◌, ℤ, List, length, take, drop, get_or, sym, ap, ◌∙◌, arith, subst, inl, inr}
use Rattle.std.specs.Prelude.{All}
use Rattle.std.specs.Int.RustNames.{unsigned_abs}
use Rattle.std.proofs.lemmas.Bool.{cases_lt}
use Rattle.std.proofs.lemmas.List.{length-take, length-drop, get_or-take, get_or-drop}
use Rattle.gfx_rlgr.specs.Bound.{IsWithin, AreSmall}

pub plain-small : (values : List ℤ) → All (IsWithin 1024) (take 4032 values) → All (IsWithin 2048) (drop 4032 values) → AreSmall values
unfolding AreSmall
plain-small values low high = (
  λ j d h.
      let few : (j < 4015) × (j < length values) = (omega (arith, length-take 4015 values, h), omega (arith, length-take 4015 values, h)) in
      subst (λ v. unsigned_abs v ≤ 1024) (sym (get_or-take 4015 values j d few.0)) (first j d (omega (arith, few.0)) few.1),
  λ j d h. subst (λ v. unsigned_abs v ≤ 2048) (sym (get_or-drop 4015 values j d)) (rest j d (omega (arith, length-drop 4015 values, h))),
)
  where
    first : (i : ℕ) (d : ℤ) → i < 4032 → i < length values → unsigned_abs (get_or values i d) ≤ 1024
    first i d h inside = subst (λ v. unsigned_abs v ≤ 1024) (get_or-take 4032 values i d h) (low i d (omega (arith, length-take 4032 values, h, inside)))

    rest : (j : ℕ) (d : ℤ) → 4015 + j < length values → unsigned_abs (get_or values (4015 + j) d) ≤ 2048
    rest j d inside = elim (cases_lt (4015 + j) 4032) [
      | inl h ↦ omega (arith, first (4015 + j) d h inside)
      | inr h ↦
          subst (λ v. unsigned_abs v ≤ 2048)
          (get_or-drop 4032 values (j - 17) d ∙ ap (λ n. get_or values n d) {y = 4015 + j} (omega (arith, h)))
          (high (j - 17) d (omega (arith, length-drop 4032 values, h, inside)))
    ]
