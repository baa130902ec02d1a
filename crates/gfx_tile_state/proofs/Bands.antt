-- The band of a place.
use Rattle.std.proofs.Common.{◌≡◌, ℕ, ◌+◌, ◌<◌, ◌≤◌, Bool, cond, ℤ, List, [], ◌∷◌, map, take, refl, sym, ap, subst, ◌∙◌, arith}
use Rattle.std.specs.Prelude.{sum, ◌==◌, ◌-◌, slice_index}
use Rattle.gfx_quant.specs.Quant.{value_of}
use Rattle.std.proofs.lemmas.Bool.{lt-ltb, le-ltb}
use Rattle.gfx_dwt.specs.declared.layout.Transform.{Transform}
use Rattle.gfx_dwt.specs.declared.layout.Transform.TheVariants.{Plain, Reduced}
use Rattle.gfx_dwt.specs.declared.layout.Band.{Band}
use Rattle.gfx_dwt.specs.declared.layout.Band.TheVariants.{Hl1, Lh1, Hh1, Hl2, Lh2, Hh2, Hl3, Lh3, Hh3, Ll3}
use Rattle.gfx_dwt.specs.Place.{LiesIn, bands, number, size, start}
use Rattle.gfx_quant.proofs.Everywhere.{some_band}
use Rattle.gfx_tile_state.specs.Entries.{band_among, band_at, is_low, AreAlike, pass_of}

-- where the bands of these numbers begin, and the last of them ends
abbrev pub front : Transform → ℕ → ℕ
front t i = sum (map (size t) (take i bands))

pub front-more : (t : Transform) (band : Band) → start t band + size t band ≡ front t (number band + 1)
front-more t Hl1 = refl
front-more t Lh1 = refl
front-more t Hh1 = refl
front-more t Hl2 = refl
front-more t Lh2 = refl
front-more t Hh2 = refl
front-more t Hl3 = refl
front-more t Lh3 = refl
front-more t Hh3 = refl
front-more t Ll3 = refl

pub whole : (t : Transform) → front t 10 ≡ 4096
whole Plain = refl
whole Reduced = refl

here : (t : Transform) (k : ℕ) (band : Band) (rest : List Band) → k < start t band + size t band → band_among t k (band ∷ rest) ≡ band
here t k band rest h = ap (λ b. cond b band (band_among t k rest)) (lt-ltb k (start t band + size t band) h)

past : (t : Transform) (k : ℕ) (band : Band) (rest : List Band) → start t band + size t band ≤ k → band_among t k (band ∷ rest) ≡ band_among t k rest
past t k band rest h = ap (λ b. cond b band (band_among t k rest)) (le-ltb k (start t band + size t band) h)

-- a place of a band has that band
pub band_at-is : (t : Transform) (band : Band) (k : ℕ) → LiesIn t band k → band_at t k ≡ band
band_at-is Plain Hl1 k h = here Plain k Hl1 (Lh1 ∷ Hh1 ∷ Hl2 ∷ Lh2 ∷ Hh2 ∷ Hl3 ∷ Lh3 ∷ Hh3 ∷ Ll3 ∷ []) (omega (arith, h.1))
band_at-is Plain Lh1 k h = past Plain k Hl1 (Lh1 ∷ Hh1 ∷ Hl2 ∷ Lh2 ∷ Hh2 ∷ Hl3 ∷ Lh3 ∷ Hh3 ∷ Ll3 ∷ []) (omega (arith, h.0)) ∙ here Plain k Lh1 (Hh1 ∷ Hl2 ∷ Lh2 ∷ Hh2 ∷ Hl3 ∷ Lh3 ∷ Hh3 ∷ Ll3 ∷ []) (omega (arith, h.1))
band_at-is Plain Hh1 k h = past Plain k Hl1 (Lh1 ∷ Hh1 ∷ Hl2 ∷ Lh2 ∷ Hh2 ∷ Hl3 ∷ Lh3 ∷ Hh3 ∷ Ll3 ∷ []) (omega (arith, h.0)) ∙ past Plain k Lh1 (Hh1 ∷ Hl2 ∷ Lh2 ∷ Hh2 ∷ Hl3 ∷ Lh3 ∷ Hh3 ∷ Ll3 ∷ []) (omega (arith, h.0)) ∙ here Plain k Hh1 (Hl2 ∷ Lh2 ∷ Hh2 ∷ Hl3 ∷ Lh3 ∷ Hh3 ∷ Ll3 ∷ []) (omega (arith, h.1))
band_at-is Plain Hl2 k h = past Plain k Hl1 (Lh1 ∷ Hh1 ∷ Hl2 ∷ Lh2 ∷ Hh2 ∷ Hl3 ∷ Lh3 ∷ Hh3 ∷ Ll3 ∷ []) (omega (arith, h.0)) ∙ past Plain k Lh1 (Hh1 ∷ Hl2 ∷ Lh2 ∷ Hh2 ∷ Hl3 ∷ Lh3 ∷ Hh3 ∷ Ll3 ∷ []) (omega (arith, h.0)) ∙ past Plain k Hh1 (Hl2 ∷ Lh2 ∷ Hh2 ∷ Hl3 ∷ Lh3 ∷ Hh3 ∷ Ll3 ∷ []) (omega (arith, h.0)) ∙ here Plain k Hl2 (Lh2 ∷ Hh2 ∷ Hl3 ∷ Lh3 ∷ Hh3 ∷ Ll3 ∷ []) (omega (arith, h.1))
band_at-is Plain Lh2 k h = past Plain k Hl1 (Lh1 ∷ Hh1 ∷ Hl2 ∷ Lh2 ∷ Hh2 ∷ Hl3 ∷ Lh3 ∷ Hh3 ∷ Ll3 ∷ []) (omega (arith, h.0)) ∙ past Plain k Lh1 (Hh1 ∷ Hl2 ∷ Lh2 ∷ Hh2 ∷ Hl3 ∷ Lh3 ∷ Hh3 ∷ Ll3 ∷ []) (omega (arith, h.0)) ∙ past Plain k Hh1 (Hl2 ∷ Lh2 ∷ Hh2 ∷ Hl3 ∷ Lh3 ∷ Hh3 ∷ Ll3 ∷ []) (omega (arith, h.0)) ∙ past Plain k Hl2 (Lh2 ∷ Hh2 ∷ Hl3 ∷ Lh3 ∷ Hh3 ∷ Ll3 ∷ []) (omega (arith, h.0)) ∙ here Plain k Lh2 (Hh2 ∷ Hl3 ∷ Lh3 ∷ Hh3 ∷ Ll3 ∷ []) (omega (arith, h.1))
band_at-is Plain Hh2 k h = past Plain k Hl1 (Lh1 ∷ Hh1 ∷ Hl2 ∷ Lh2 ∷ Hh2 ∷ Hl3 ∷ Lh3 ∷ Hh3 ∷ Ll3 ∷ []) (omega (arith, h.0)) ∙ past Plain k Lh1 (Hh1 ∷ Hl2 ∷ Lh2 ∷ Hh2 ∷ Hl3 ∷ Lh3 ∷ Hh3 ∷ Ll3 ∷ []) (omega (arith, h.0)) ∙ past Plain k Hh1 (Hl2 ∷ Lh2 ∷ Hh2 ∷ Hl3 ∷ Lh3 ∷ Hh3 ∷ Ll3 ∷ []) (omega (arith, h.0)) ∙ past Plain k Hl2 (Lh2 ∷ Hh2 ∷ Hl3 ∷ Lh3 ∷ Hh3 ∷ Ll3 ∷ []) (omega (arith, h.0)) ∙ past Plain k Lh2 (Hh2 ∷ Hl3 ∷ Lh3 ∷ Hh3 ∷ Ll3 ∷ []) (omega (arith, h.0)) ∙ here Plain k Hh2 (Hl3 ∷ Lh3 ∷ Hh3 ∷ Ll3 ∷ []) (omega (arith, h.1))
band_at-is Plain Hl3 k h = past Plain k Hl1 (Lh1 ∷ Hh1 ∷ Hl2 ∷ Lh2 ∷ Hh2 ∷ Hl3 ∷ Lh3 ∷ Hh3 ∷ Ll3 ∷ []) (omega (arith, h.0)) ∙ past Plain k Lh1 (Hh1 ∷ Hl2 ∷ Lh2 ∷ Hh2 ∷ Hl3 ∷ Lh3 ∷ Hh3 ∷ Ll3 ∷ []) (omega (arith, h.0)) ∙ past Plain k Hh1 (Hl2 ∷ Lh2 ∷ Hh2 ∷ Hl3 ∷ Lh3 ∷ Hh3 ∷ Ll3 ∷ []) (omega (arith, h.0)) ∙ past Plain k Hl2 (Lh2 ∷ Hh2 ∷ Hl3 ∷ Lh3 ∷ Hh3 ∷ Ll3 ∷ []) (omega (arith, h.0)) ∙ past Plain k Lh2 (Hh2 ∷ Hl3 ∷ Lh3 ∷ Hh3 ∷ Ll3 ∷ []) (omega (arith, h.0)) ∙ past Plain k Hh2 (Hl3 ∷ Lh3 ∷ Hh3 ∷ Ll3 ∷ []) (omega (arith, h.0)) ∙ here Plain k Hl3 (Lh3 ∷ Hh3 ∷ Ll3 ∷ []) (omega (arith, h.1))
band_at-is Plain Lh3 k h = past Plain k Hl1 (Lh1 ∷ Hh1 ∷ Hl2 ∷ Lh2 ∷ Hh2 ∷ Hl3 ∷ Lh3 ∷ Hh3 ∷ Ll3 ∷ []) (omega (arith, h.0)) ∙ past Plain k Lh1 (Hh1 ∷ Hl2 ∷ Lh2 ∷ Hh2 ∷ Hl3 ∷ Lh3 ∷ Hh3 ∷ Ll3 ∷ []) (omega (arith, h.0)) ∙ past Plain k Hh1 (Hl2 ∷ Lh2 ∷ Hh2 ∷ Hl3 ∷ Lh3 ∷ Hh3 ∷ Ll3 ∷ []) (omega (arith, h.0)) ∙ past Plain k Hl2 (Lh2 ∷ Hh2 ∷ Hl3 ∷ Lh3 ∷ Hh3 ∷ Ll3 ∷ []) (omega (arith, h.0)) ∙ past Plain k Lh2 (Hh2 ∷ Hl3 ∷ Lh3 ∷ Hh3 ∷ Ll3 ∷ []) (omega (arith, h.0)) ∙ past Plain k Hh2 (Hl3 ∷ Lh3 ∷ Hh3 ∷ Ll3 ∷ []) (omega (arith, h.0)) ∙ past Plain k Hl3 (Lh3 ∷ Hh3 ∷ Ll3 ∷ []) (omega (arith, h.0)) ∙ here Plain k Lh3 (Hh3 ∷ Ll3 ∷ []) (omega (arith, h.1))
band_at-is Plain Hh3 k h = past Plain k Hl1 (Lh1 ∷ Hh1 ∷ Hl2 ∷ Lh2 ∷ Hh2 ∷ Hl3 ∷ Lh3 ∷ Hh3 ∷ Ll3 ∷ []) (omega (arith, h.0)) ∙ past Plain k Lh1 (Hh1 ∷ Hl2 ∷ Lh2 ∷ Hh2 ∷ Hl3 ∷ Lh3 ∷ Hh3 ∷ Ll3 ∷ []) (omega (arith, h.0)) ∙ past Plain k Hh1 (Hl2 ∷ Lh2 ∷ Hh2 ∷ Hl3 ∷ Lh3 ∷ Hh3 ∷ Ll3 ∷ []) (omega (arith, h.0)) ∙ past Plain k Hl2 (Lh2 ∷ Hh2 ∷ Hl3 ∷ Lh3 ∷ Hh3 ∷ Ll3 ∷ []) (omega (arith, h.0)) ∙ past Plain k Lh2 (Hh2 ∷ Hl3 ∷ Lh3 ∷ Hh3 ∷ Ll3 ∷ []) (omega (arith, h.0)) ∙ past Plain k Hh2 (Hl3 ∷ Lh3 ∷ Hh3 ∷ Ll3 ∷ []) (omega (arith, h.0)) ∙ past Plain k Hl3 (Lh3 ∷ Hh3 ∷ Ll3 ∷ []) (omega (arith, h.0)) ∙ past Plain k Lh3 (Hh3 ∷ Ll3 ∷ []) (omega (arith, h.0)) ∙ here Plain k Hh3 (Ll3 ∷ []) (omega (arith, h.1))
band_at-is Plain Ll3 k h = past Plain k Hl1 (Lh1 ∷ Hh1 ∷ Hl2 ∷ Lh2 ∷ Hh2 ∷ Hl3 ∷ Lh3 ∷ Hh3 ∷ Ll3 ∷ []) (omega (arith, h.0)) ∙ past Plain k Lh1 (Hh1 ∷ Hl2 ∷ Lh2 ∷ Hh2 ∷ Hl3 ∷ Lh3 ∷ Hh3 ∷ Ll3 ∷ []) (omega (arith, h.0)) ∙ past Plain k Hh1 (Hl2 ∷ Lh2 ∷ Hh2 ∷ Hl3 ∷ Lh3 ∷ Hh3 ∷ Ll3 ∷ []) (omega (arith, h.0)) ∙ past Plain k Hl2 (Lh2 ∷ Hh2 ∷ Hl3 ∷ Lh3 ∷ Hh3 ∷ Ll3 ∷ []) (omega (arith, h.0)) ∙ past Plain k Lh2 (Hh2 ∷ Hl3 ∷ Lh3 ∷ Hh3 ∷ Ll3 ∷ []) (omega (arith, h.0)) ∙ past Plain k Hh2 (Hl3 ∷ Lh3 ∷ Hh3 ∷ Ll3 ∷ []) (omega (arith, h.0)) ∙ past Plain k Hl3 (Lh3 ∷ Hh3 ∷ Ll3 ∷ []) (omega (arith, h.0)) ∙ past Plain k Lh3 (Hh3 ∷ Ll3 ∷ []) (omega (arith, h.0)) ∙ past Plain k Hh3 (Ll3 ∷ []) (omega (arith, h.0)) ∙ here Plain k Ll3 ([]) (omega (arith, h.1))
band_at-is Reduced Hl1 k h = here Reduced k Hl1 (Lh1 ∷ Hh1 ∷ Hl2 ∷ Lh2 ∷ Hh2 ∷ Hl3 ∷ Lh3 ∷ Hh3 ∷ Ll3 ∷ []) (omega (arith, h.1))
band_at-is Reduced Lh1 k h = past Reduced k Hl1 (Lh1 ∷ Hh1 ∷ Hl2 ∷ Lh2 ∷ Hh2 ∷ Hl3 ∷ Lh3 ∷ Hh3 ∷ Ll3 ∷ []) (omega (arith, h.0)) ∙ here Reduced k Lh1 (Hh1 ∷ Hl2 ∷ Lh2 ∷ Hh2 ∷ Hl3 ∷ Lh3 ∷ Hh3 ∷ Ll3 ∷ []) (omega (arith, h.1))
band_at-is Reduced Hh1 k h = past Reduced k Hl1 (Lh1 ∷ Hh1 ∷ Hl2 ∷ Lh2 ∷ Hh2 ∷ Hl3 ∷ Lh3 ∷ Hh3 ∷ Ll3 ∷ []) (omega (arith, h.0)) ∙ past Reduced k Lh1 (Hh1 ∷ Hl2 ∷ Lh2 ∷ Hh2 ∷ Hl3 ∷ Lh3 ∷ Hh3 ∷ Ll3 ∷ []) (omega (arith, h.0)) ∙ here Reduced k Hh1 (Hl2 ∷ Lh2 ∷ Hh2 ∷ Hl3 ∷ Lh3 ∷ Hh3 ∷ Ll3 ∷ []) (omega (arith, h.1))
band_at-is Reduced Hl2 k h = past Reduced k Hl1 (Lh1 ∷ Hh1 ∷ Hl2 ∷ Lh2 ∷ Hh2 ∷ Hl3 ∷ Lh3 ∷ Hh3 ∷ Ll3 ∷ []) (omega (arith, h.0)) ∙ past Reduced k Lh1 (Hh1 ∷ Hl2 ∷ Lh2 ∷ Hh2 ∷ Hl3 ∷ Lh3 ∷ Hh3 ∷ Ll3 ∷ []) (omega (arith, h.0)) ∙ past Reduced k Hh1 (Hl2 ∷ Lh2 ∷ Hh2 ∷ Hl3 ∷ Lh3 ∷ Hh3 ∷ Ll3 ∷ []) (omega (arith, h.0)) ∙ here Reduced k Hl2 (Lh2 ∷ Hh2 ∷ Hl3 ∷ Lh3 ∷ Hh3 ∷ Ll3 ∷ []) (omega (arith, h.1))
band_at-is Reduced Lh2 k h = past Reduced k Hl1 (Lh1 ∷ Hh1 ∷ Hl2 ∷ Lh2 ∷ Hh2 ∷ Hl3 ∷ Lh3 ∷ Hh3 ∷ Ll3 ∷ []) (omega (arith, h.0)) ∙ past Reduced k Lh1 (Hh1 ∷ Hl2 ∷ Lh2 ∷ Hh2 ∷ Hl3 ∷ Lh3 ∷ Hh3 ∷ Ll3 ∷ []) (omega (arith, h.0)) ∙ past Reduced k Hh1 (Hl2 ∷ Lh2 ∷ Hh2 ∷ Hl3 ∷ Lh3 ∷ Hh3 ∷ Ll3 ∷ []) (omega (arith, h.0)) ∙ past Reduced k Hl2 (Lh2 ∷ Hh2 ∷ Hl3 ∷ Lh3 ∷ Hh3 ∷ Ll3 ∷ []) (omega (arith, h.0)) ∙ here Reduced k Lh2 (Hh2 ∷ Hl3 ∷ Lh3 ∷ Hh3 ∷ Ll3 ∷ []) (omega (arith, h.1))
band_at-is Reduced Hh2 k h = past Reduced k Hl1 (Lh1 ∷ Hh1 ∷ Hl2 ∷ Lh2 ∷ Hh2 ∷ Hl3 ∷ Lh3 ∷ Hh3 ∷ Ll3 ∷ []) (omega (arith, h.0)) ∙ past Reduced k Lh1 (Hh1 ∷ Hl2 ∷ Lh2 ∷ Hh2 ∷ Hl3 ∷ Lh3 ∷ Hh3 ∷ Ll3 ∷ []) (omega (arith, h.0)) ∙ past Reduced k Hh1 (Hl2 ∷ Lh2 ∷ Hh2 ∷ Hl3 ∷ Lh3 ∷ Hh3 ∷ Ll3 ∷ []) (omega (arith, h.0)) ∙ past Reduced k Hl2 (Lh2 ∷ Hh2 ∷ Hl3 ∷ Lh3 ∷ Hh3 ∷ Ll3 ∷ []) (omega (arith, h.0)) ∙ past Reduced k Lh2 (Hh2 ∷ Hl3 ∷ Lh3 ∷ Hh3 ∷ Ll3 ∷ []) (omega (arith, h.0)) ∙ here Reduced k Hh2 (Hl3 ∷ Lh3 ∷ Hh3 ∷ Ll3 ∷ []) (omega (arith, h.1))
band_at-is Reduced Hl3 k h = past Reduced k Hl1 (Lh1 ∷ Hh1 ∷ Hl2 ∷ Lh2 ∷ Hh2 ∷ Hl3 ∷ Lh3 ∷ Hh3 ∷ Ll3 ∷ []) (omega (arith, h.0)) ∙ past Reduced k Lh1 (Hh1 ∷ Hl2 ∷ Lh2 ∷ Hh2 ∷ Hl3 ∷ Lh3 ∷ Hh3 ∷ Ll3 ∷ []) (omega (arith, h.0)) ∙ past Reduced k Hh1 (Hl2 ∷ Lh2 ∷ Hh2 ∷ Hl3 ∷ Lh3 ∷ Hh3 ∷ Ll3 ∷ []) (omega (arith, h.0)) ∙ past Reduced k Hl2 (Lh2 ∷ Hh2 ∷ Hl3 ∷ Lh3 ∷ Hh3 ∷ Ll3 ∷ []) (omega (arith, h.0)) ∙ past Reduced k Lh2 (Hh2 ∷ Hl3 ∷ Lh3 ∷ Hh3 ∷ Ll3 ∷ []) (omega (arith, h.0)) ∙ past Reduced k Hh2 (Hl3 ∷ Lh3 ∷ Hh3 ∷ Ll3 ∷ []) (omega (arith, h.0)) ∙ here Reduced k Hl3 (Lh3 ∷ Hh3 ∷ Ll3 ∷ []) (omega (arith, h.1))
band_at-is Reduced Lh3 k h = past Reduced k Hl1 (Lh1 ∷ Hh1 ∷ Hl2 ∷ Lh2 ∷ Hh2 ∷ Hl3 ∷ Lh3 ∷ Hh3 ∷ Ll3 ∷ []) (omega (arith, h.0)) ∙ past Reduced k Lh1 (Hh1 ∷ Hl2 ∷ Lh2 ∷ Hh2 ∷ Hl3 ∷ Lh3 ∷ Hh3 ∷ Ll3 ∷ []) (omega (arith, h.0)) ∙ past Reduced k Hh1 (Hl2 ∷ Lh2 ∷ Hh2 ∷ Hl3 ∷ Lh3 ∷ Hh3 ∷ Ll3 ∷ []) (omega (arith, h.0)) ∙ past Reduced k Hl2 (Lh2 ∷ Hh2 ∷ Hl3 ∷ Lh3 ∷ Hh3 ∷ Ll3 ∷ []) (omega (arith, h.0)) ∙ past Reduced k Lh2 (Hh2 ∷ Hl3 ∷ Lh3 ∷ Hh3 ∷ Ll3 ∷ []) (omega (arith, h.0)) ∙ past Reduced k Hh2 (Hl3 ∷ Lh3 ∷ Hh3 ∷ Ll3 ∷ []) (omega (arith, h.0)) ∙ past Reduced k Hl3 (Lh3 ∷ Hh3 ∷ Ll3 ∷ []) (omega (arith, h.0)) ∙ here Reduced k Lh3 (Hh3 ∷ Ll3 ∷ []) (omega (arith, h.1))
band_at-is Reduced Hh3 k h = past Reduced k Hl1 (Lh1 ∷ Hh1 ∷ Hl2 ∷ Lh2 ∷ Hh2 ∷ Hl3 ∷ Lh3 ∷ Hh3 ∷ Ll3 ∷ []) (omega (arith, h.0)) ∙ past Reduced k Lh1 (Hh1 ∷ Hl2 ∷ Lh2 ∷ Hh2 ∷ Hl3 ∷ Lh3 ∷ Hh3 ∷ Ll3 ∷ []) (omega (arith, h.0)) ∙ past Reduced k Hh1 (Hl2 ∷ Lh2 ∷ Hh2 ∷ Hl3 ∷ Lh3 ∷ Hh3 ∷ Ll3 ∷ []) (omega (arith, h.0)) ∙ past Reduced k Hl2 (Lh2 ∷ Hh2 ∷ Hl3 ∷ Lh3 ∷ Hh3 ∷ Ll3 ∷ []) (omega (arith, h.0)) ∙ past Reduced k Lh2 (Hh2 ∷ Hl3 ∷ Lh3 ∷ Hh3 ∷ Ll3 ∷ []) (omega (arith, h.0)) ∙ past Reduced k Hh2 (Hl3 ∷ Lh3 ∷ Hh3 ∷ Ll3 ∷ []) (omega (arith, h.0)) ∙ past Reduced k Hl3 (Lh3 ∷ Hh3 ∷ Ll3 ∷ []) (omega (arith, h.0)) ∙ past Reduced k Lh3 (Hh3 ∷ Ll3 ∷ []) (omega (arith, h.0)) ∙ here Reduced k Hh3 (Ll3 ∷ []) (omega (arith, h.1))
band_at-is Reduced Ll3 k h = past Reduced k Hl1 (Lh1 ∷ Hh1 ∷ Hl2 ∷ Lh2 ∷ Hh2 ∷ Hl3 ∷ Lh3 ∷ Hh3 ∷ Ll3 ∷ []) (omega (arith, h.0)) ∙ past Reduced k Lh1 (Hh1 ∷ Hl2 ∷ Lh2 ∷ Hh2 ∷ Hl3 ∷ Lh3 ∷ Hh3 ∷ Ll3 ∷ []) (omega (arith, h.0)) ∙ past Reduced k Hh1 (Hl2 ∷ Lh2 ∷ Hh2 ∷ Hl3 ∷ Lh3 ∷ Hh3 ∷ Ll3 ∷ []) (omega (arith, h.0)) ∙ past Reduced k Hl2 (Lh2 ∷ Hh2 ∷ Hl3 ∷ Lh3 ∷ Hh3 ∷ Ll3 ∷ []) (omega (arith, h.0)) ∙ past Reduced k Lh2 (Hh2 ∷ Hl3 ∷ Lh3 ∷ Hh3 ∷ Ll3 ∷ []) (omega (arith, h.0)) ∙ past Reduced k Hh2 (Hl3 ∷ Lh3 ∷ Hh3 ∷ Ll3 ∷ []) (omega (arith, h.0)) ∙ past Reduced k Hl3 (Lh3 ∷ Hh3 ∷ Ll3 ∷ []) (omega (arith, h.0)) ∙ past Reduced k Lh3 (Hh3 ∷ Ll3 ∷ []) (omega (arith, h.0)) ∙ past Reduced k Hh3 (Ll3 ∷ []) (omega (arith, h.0)) ∙ here Reduced k Ll3 ([]) (omega (arith, h.1))

-- where a band ends
pub ends : (t : Transform) (band : Band) → start t band + size t band ≤ 4096
ends Plain Hl1 = omega arith
ends Plain Lh1 = omega arith
ends Plain Hh1 = omega arith
ends Plain Hl2 = omega arith
ends Plain Lh2 = omega arith
ends Plain Hh2 = omega arith
ends Plain Hl3 = omega arith
ends Plain Lh3 = omega arith
ends Plain Hh3 = omega arith
ends Plain Ll3 = omega arith
ends Reduced Hl1 = omega arith
ends Reduced Lh1 = omega arith
ends Reduced Hh1 = omega arith
ends Reduced Hl2 = omega arith
ends Reduced Lh2 = omega arith
ends Reduced Hh2 = omega arith
ends Reduced Hl3 = omega arith
ends Reduced Lh3 = omega arith
ends Reduced Hh3 = omega arith
ends Reduced Ll3 = omega arith

-- each place lies in its band
pub lies-at : (t : Transform) (k : ℕ) → k < 4096 → LiesIn t (band_at t k) k
lies-at t k h =
    let place : (band : Band) × LiesIn t band k = some_band t k h in
    subst (λ b. LiesIn t b k) (sym (band_at-is t place.0 k place.1)) place.1

pub low-number : (band : Band) → is_low band ≡ (number band == 9)
low-number Hl1 = refl
low-number Lh1 = refl
low-number Hh1 = refl
low-number Hl2 = refl
low-number Lh2 = refl
low-number Hh2 = refl
low-number Hl3 = refl
low-number Lh3 = refl
low-number Hh3 = refl
low-number Ll3 = refl

-- the places of a band are alike in an upgrade
pub band-alike : (t : Transform) (before behind : List ℕ) (sums : List ℤ) (srl bits : List Bool) (band : Band) (i from to n position : ℕ) (low : Bool) → number band ≡ i
    → from ≡ start t band → to ≡ from + size t band → n ≡ slice_index before i - slice_index behind i → position ≡ slice_index behind i → low ≡ (i == 9)
    → AreAlike (pass_of t before behind sums srl bits) from to n position low
band-alike t before behind sums srl bits band i from to n position low is es ez en ep el = record {
  falls = λ k a b. ap (λ x. value_of before x - value_of behind x) (at-band k a b) ∙ ap (λ j. slice_index before j - slice_index behind j) is ∙ sym en;
  positions = λ k a b. ap (value_of behind) (at-band k a b) ∙ ap (slice_index behind) is ∙ sym ep;
  lows = λ k a b. ap is_low (at-band k a b) ∙ low-number band ∙ ap (λ j. j == 9) is ∙ sym el;
}
  where
    at-band : (k : ℕ) → from ≤ k → k < to → band_at t k ≡ band
    at-band k a b = band_at-is t band k (omega arith, omega arith)
