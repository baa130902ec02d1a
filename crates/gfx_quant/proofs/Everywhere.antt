-- What holds of each band's places holds of all places.
use Rattle.std.proofs.Common.{◌≡◌, ℕ, ◌+◌, ◌<◌, true, ℤ, pos, negsuc, List, length, arith, refl, inl, inr, lit<}
use Rattle.std.proofs.lemmas.Int.{ints}
use Rattle.std.proofs.lemmas.Bool.{cases_lt}
use Rattle.gfx_dwt.specs.declared.layout.Transform.{Transform}
use Rattle.gfx_dwt.specs.declared.layout.Transform.TheVariants.{Plain, Reduced}
use Rattle.gfx_dwt.specs.declared.layout.Band.{Band}
use Rattle.gfx_dwt.specs.declared.layout.Band.TheVariants.{Hl1, Lh1, Hh1, Hl2, Lh2, Hh2, Hl3, Lh3, Hh3, Ll3}
use Rattle.gfx_dwt.specs.Place.{LiesIn, number, start, size}
use Rattle.gfx_dwt.specs.Ranges.{AllCoefficients, IsCoefficient}
use Rattle.gfx_quant.specs.Coefficient.{coefficient_of, is_coefficient}
use Rattle.gfx_quant.specs.Planes.{AllHave, MapsBands, PlaneHas}
use Rattle.gfx_quant.specs.Quant.{value_of}

last_end : (t : Transform) → start t Ll3 + size t Ll3 ≡ 4096
last_end Plain = refl
last_end Reduced = refl

-- each place lies in some band
pub some_band : (t : Transform) (k : ℕ) → k < 4096 → (band : Band) × LiesIn t band k
some_band t k h =
    elim (cases_lt k (start t Lh1)) [
      | inl a ↦ (Hl1, (omega arith, omega arith))
      | inr a ↦
          elim (cases_lt k (start t Hh1)) [
            | inl b ↦ (Lh1, (omega arith, omega arith))
            | inr b ↦
                elim (cases_lt k (start t Hl2)) [
                  | inl c ↦ (Hh1, (omega arith, omega arith))
                  | inr c ↦
                      elim (cases_lt k (start t Lh2)) [
                        | inl d ↦ (Hl2, (omega arith, omega arith))
                        | inr d ↦
                            elim (cases_lt k (start t Hh2)) [
                              | inl e ↦ (Lh2, (omega arith, omega arith))
                              | inr e ↦
                                  elim (cases_lt k (start t Hl3)) [
                                    | inl f ↦ (Hh2, (omega arith, omega arith))
                                    | inr f ↦
                                        elim (cases_lt k (start t Lh3)) [
                                          | inl g ↦ (Hl3, (omega arith, omega arith))
                                          | inr g ↦
                                              elim (cases_lt k (start t Hh3)) [
                                                | inl i ↦ (Lh3, (omega arith, omega arith))
                                                | inr i ↦
                                                    elim (cases_lt k (start t Ll3)) [
                                                      | inl j ↦ (Hh3, (omega arith, omega arith))
                                                      | inr j ↦
                                                          (Ll3, (omega arith, omega (arith, last_end t)))
                                                    ]
                                              ]
                                        ]
                                  ]
                            ]
                      ]
                ]
          ]
    ]

coefficient_fact : (z : ℤ) → is_coefficient z ≡ true → IsCoefficient z
coefficient_fact (pos n) h = record { least = grind (arith, ints); most = grind (arith, ints) }
coefficient_fact (negsuc n) h = record { least = grind (arith, ints); most = grind (arith, ints) }

pub few : (band : Band) → number band < 10
few Hl1 = lit< tt
few Lh1 = lit< tt
few Hh1 = lit< tt
few Hl2 = lit< tt
few Lh2 = lit< tt
few Hh2 = lit< tt
few Hl3 = lit< tt
few Lh3 = lit< tt
few Hh3 = lit< tt
few Ll3 = lit< tt

-- what scaled values are, where each has a coefficient
pub scaled_coefficients : (t : Transform) (positions : List ℕ) (old new : List ℤ) → length new ≡ 4096 → PlaneHas 10 t positions old → MapsBands t (λ band v. coefficient_of v (value_of positions band)) old new → AllCoefficients new
scaled_coefficients t positions old new len has maps k h =
    let place : (band : Band) × LiesIn t band k = some_band t k (omega arith) in
    rw (maps place.0 k place.1) (coefficient_fact _ (has place.0 k (few place.0) place.1))

-- the values of a band have coefficients where the plane's have
pub band_have : (t : Transform) (positions : List ℕ) (plane : List ℤ) (band : Band) (position from count : ℕ) → position ≡ value_of positions band → from ≡ start t band → count ≡ size t band → PlaneHas 10 t positions plane → AllHave position plane from (from + count)
band_have t positions plane band position from count ep es ez has k a b =
    let lies : LiesIn t band k = (omega arith, omega arith) in
    rw ep (has band k (few band) lies)
