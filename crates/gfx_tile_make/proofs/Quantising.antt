-- The planes of a tile's pixels.
use Rattle.std.proofs.Common.{◌≡◌, ◌∙◌, ℕ, ◌+◌, ◌-◌, ◌*◌, ◌/◌, ◌%◌, ◌<◌, ℤ, pos, List, length, map, get_or, sym, ap, arith}
use Rattle.std.proofs.lemmas.Nat.{div-add-mod', mod_below}
use Rattle.std.proofs.lemmas.List.{get_or-map, length-map}
use Rattle.std.proofs.lemmas.Option.{slice_get-get_or}
use Rattle.std.proofs.Math.Nat.{div-lt_iff_lt-mul}
use Rattle.gfx_base.specs.declared.pixel.Pixel.{Pixel}
use Rattle.gfx_dwt.specs.declared.layout.Transform.{Transform}
use Rattle.gfx_dwt.specs.declared.layout.Transform.TheVariants.{Plain, Reduced}
use Rattle.gfx_dwt.specs.declared.layout.Band.{Band}
use Rattle.gfx_dwt.specs.declared.layout.Band.TheVariants.{Hl1, Lh1, Hh1, Hl2, Lh2, Hh2, Hl3, Lh3, Hh3, Ll3}
use Rattle.gfx_dwt.specs.Coefficients.{transformed}
use Rattle.gfx_dwt.specs.Place.{LiesIn, coefficient, columns, rows, start}
use Rattle.gfx_dwt.specs.Ranges.{at}
use Rattle.gfx_quant.specs.declared.rounding.Rounding.{Rounding}
use Rattle.gfx_quant.specs.Coefficient.{cut, quantised}
use Rattle.gfx_quant.specs.Planes.{EachIs, MapsBands}
use Rattle.gfx_quant.specs.Quant.{value_of}
use Rattle.gfx_tile_state.specs.Entries.{band_at}
use Rattle.gfx_tile_make.specs.Quantised.{quantised_at, quantised_in, quantised_samples}
use Rattle.gfx_tile_state.proofs.Bands.{lies-at}
use Rattle.gfx_tile_make.proofs.ByBand.{same-planes}
use Rattle.gfx_tile_make.proofs.Sources.{at-quantised, quantised-whole}

some-columns : (t : Transform) (band : Band) → 0 < columns t band
some-columns Plain Hl1 = omega arith
some-columns Plain Lh1 = omega arith
some-columns Plain Hh1 = omega arith
some-columns Plain Hl2 = omega arith
some-columns Plain Lh2 = omega arith
some-columns Plain Hh2 = omega arith
some-columns Plain Hl3 = omega arith
some-columns Plain Lh3 = omega arith
some-columns Plain Hh3 = omega arith
some-columns Plain Ll3 = omega arith
some-columns Reduced Hl1 = omega arith
some-columns Reduced Lh1 = omega arith
some-columns Reduced Hh1 = omega arith
some-columns Reduced Hl2 = omega arith
some-columns Reduced Lh2 = omega arith
some-columns Reduced Hh2 = omega arith
some-columns Reduced Hl3 = omega arith
some-columns Reduced Lh3 = omega arith
some-columns Reduced Hh3 = omega arith
some-columns Reduced Ll3 = omega arith

-- a place of a band by its row and its column
in-rows : (t : Transform) (band : Band) (k : ℕ) → LiesIn t band k → (k - start t band) / columns t band < rows t band
in-rows t band k lies = (div-lt_iff_lt-mul (some-columns t band)).1 (omega (arith, lies.0, lies.1))

by-row : (t : Transform) (band : Band) (plane : List ℤ) (k : ℕ) → LiesIn t band k → coefficient t plane band ((k - start t band) / columns t band) ((k - start t band) % columns t band) ≡ at plane k
by-row t band plane k lies =
    ap (at plane) {x = start t band + ((k - start t band) / columns t band * columns t band + (k - start t band) % columns t band)} {y = k} (omega (arith, div-add-mod' (k - start t band) (columns t band), lies.0))

-- transformed, cut and quantised: the plane of the definition
pub quantised-is : (rounding : Rounding) (t : Transform) (base : List ℕ) (samples forward cuts out : List ℤ)
    → ((band : Band) (row column : ℕ) → row < rows t band → column < columns t band → coefficient t forward band row column ≡ transformed t samples band row column)
    → ((k : ℕ) → k < 4096 → at cuts k ≡ cut (at forward k)) → MapsBands t (λ band c. quantised rounding band c (value_of base band)) cuts out → length out ≡ 4096
    → out ≡ quantised_samples rounding t base samples
unfolding quantised_at quantised_in
quantised-is rounding t base samples forward cuts out is cutting maps long =
    same-planes out (quantised_samples rounding t base samples) 4096 long (quantised-whole rounding t base samples) (λ k h. here k h ∙ sym (at-quantised rounding t base samples k h))
  where
    here : (k : ℕ) → k < 4096 → at out k ≡ quantised_at rounding t base samples k
    here k h =
        let band : Band = band_at t k in
        let lies : LiesIn t band k = lies-at t k h in
        let i : ℕ = k - start t band in
        maps band k lies
        ∙ ap (λ z. quantised rounding band z (value_of base band)) (cutting k h ∙ ap cut (sym (by-row t band forward k lies) ∙ is band (i / columns t band) (i % columns t band) (in-rows t band k lies) (mod_below i (columns t band) (some-columns t band))))

-- the samples of pixels
pub samples-are : (sample : Pixel → ℤ) (pixels : List Pixel) (samples : List ℤ) → length pixels ≡ 4096 → length samples ≡ 4096 → EachIs sample pixels samples → samples ≡ map sample pixels
samples-are sample pixels samples long long' each =
    same-planes samples (map sample pixels) 4096 long' (length-map pixels sample ∙ long)
    (λ k h.
    each k (get_or pixels k none) (slice_get-get_or pixels k none (omega arith)) ∙ sym (get_or-map sample pixels k none (pos 0) (omega arith)))
  where
    none : Pixel
    none = record { b = 0; g = 0; r = 0; a = 0 }
