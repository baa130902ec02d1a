-- How long the streams of a picture are.
use Rattle.std.proofs.Common.{◌≡◌, ℕ, ◌+◌, ◌*◌, ◌≤◌, ◌<◌, inl, inr, Bool, true, false, List, [], ◌∷◌, length, Some, None, refl, sym, ap, ◌∙◌, arith, length-append}
use Rattle.std.specs.Prelude.{◌&&◌, nat_le, nat_lt, min}
use Rattle.std.specs.List.{flat_map}
use Rattle.std.proofs.lemmas.Bool.{cases_lt, lt-ltb, le-leb, lt-leb, ltb-true}
use Rattle.gfx_base.specs.Colour.{colours_of}
use Rattle.gfx_base.specs.declared.pixel.Rgb.{Rgb}
use Rattle.gfx_chooser.proofs.Counting.{length-colours_in}
use Rattle.gfx_chooser.specs.Facts.{colours_in, colours_counted}
use Rattle.gfx_clear.specs.Sending.{area_bytes, size_bytes, palette_part, part_bytes, raw_part, sent}
use Rattle.gfx_clear.specs.State.{ClearState, fresh}
use Rattle.gfx_clear.specs.declared.layer.Layer.TheVariants.{Residual, Palette, Plain}
use Rattle.gfx_clear_bands.specs.Writing.{colour_bytes}
use Rattle.gfx_clear_runs.specs.Writing.{entry_spelled, longest_runs, rlex_by, runs_written, segment_spelled, segments_written}
use Rattle.gfx_script.specs.declared.picture.Picture.{Picture}
use Rattle.gfx_estimate.specs.Inner.{are_palette}
use Rattle.gfx_estimate.specs.Laws.{GoByNoState}
use Rattle.gfx_estimate.specs.Sizes.{layer_size, sizes_of}

-- three bytes for each pixel
length-colours : (pixels : List Rgb) → length (flat_map colour_bytes pixels) ≡ 3 * length pixels
length-colours [] = refl
length-colours (pixel ∷ pixels) = omega (arith, length-append (colour_bytes pixel) (flat_map colour_bytes pixels), length-colours pixels)

-- the layer of runs
pub residual_size : (clear : ClearState) (picture : Picture) → layer_size clear Residual picture ≡ 14 + length (runs_written (colours_in picture))
unfolding sent size_bytes
residual_size clear picture = omega arith

-- pixel by pixel
plain_part : (width height : ℕ) (pixels : List Rgb) → length (part_bytes width height (raw_part pixels)) ≡ 25 + 3 * length pixels
unfolding size_bytes area_bytes
plain_part width height pixels = omega (arith, length-colours pixels)

pub plain_is : (clear : ClearState) (picture : Picture) → layer_size clear Plain picture ≡ 27 + 3 * (picture.width * picture.height)
unfolding sent
plain_is clear picture =
    omega (arith, plain_part picture.width picture.height (colours_in picture), length-colours_in picture)

-- by a palette
segments_part : (width height : ℕ) (pixels palette : List Rgb)
    → length (part_bytes width height (palette_part pixels (Some (segments_written palette pixels)))) ≡ 25 + (1 + (3 * length palette + length (flat_map (segment_spelled palette) (longest_runs pixels))))
unfolding size_bytes area_bytes
segments_part width height pixels palette =
    omega (arith, length-append (flat_map entry_spelled palette) (flat_map (segment_spelled palette) (longest_runs pixels)), length-colours palette)

both : (a b : Bool) → (a && b) ≡ true → (a ≡ true) × (b ≡ true)
both true b e = (refl, e)
both false b e = absurd cc

palette_tested : (colours : ℕ) → 1 ≤ colours → colours < 128 → (nat_lt 0 colours && nat_le colours 127) ≡ true
palette_tested colours some few = rw (lt-ltb 0 colours some, le-leb colours 127 (omega arith)) refl

none_tested : (colours : ℕ) → colours ≡ 0 → (nat_lt 0 colours && nat_le colours 127) ≡ false
none_tested colours none = rw none refl

many_tested : (colours : ℕ) → 128 ≤ colours → (nat_lt 0 colours && nat_le colours 127) ≡ false
many_tested colours many = rw (lt-ltb 0 colours (omega arith), lt-leb colours 127 (omega arith)) refl

are_tested : (colours : ℕ) → 1 ≤ colours → colours < 128 → are_palette colours ≡ true
are_tested colours some few = rw (lt-ltb 0 colours some, lt-ltb colours 128 few) refl

-- what is counted is no palette, so there are none or too many
not_tested : (count counted : ℕ) → counted ≡ min count 128 → are_palette counted ≡ false → (nat_lt 0 count && nat_le count 127) ≡ false
not_tested count counted least e =
    elim (cases_lt count 1) as (λ _. (nat_lt 0 count && nat_le count 127) ≡ false) [
      | inl none ↦ none_tested count (omega (arith, none))
      | inr some ↦
          elim (cases_lt count 128) as (λ _. (nat_lt 0 count && nat_le count 127) ≡ false) [
            | inl few ↦
                let clash : true ≡ false = sym (are_tested counted (omega (arith, some, few, least)) (omega (arith, few, least))) ∙ e in
                absurd cc
            | inr many ↦ many_tested count many
          ]
    ]

rlex_some : (palette pixels : List Rgb) → 1 ≤ length palette → length palette < 128 → rlex_by palette pixels ≡ Some (segments_written palette pixels)
unfolding rlex_by
rlex_some palette pixels some few = rw (palette_tested (length palette) some few) refl

rlex_none : (palette pixels : List Rgb) → (nat_lt 0 (length palette) && nat_le (length palette) 127) ≡ false → rlex_by palette pixels ≡ None
unfolding rlex_by
rlex_none palette pixels e = rw e refl

pub palette_some : (clear : ClearState) (picture : Picture) (colours segments : ℕ) → colours ≡ colours_counted picture → are_palette colours ≡ true
    → segments ≡ length (flat_map (segment_spelled (colours_of (colours_in picture))) (longest_runs (colours_in picture)))
    → 28 + 3 * colours + segments ≡ layer_size clear Palette picture
unfolding sent
palette_some clear picture colours segments counted tested costs =
    let parts = both (nat_lt 0 colours) (nat_lt colours 128) tested in
    let some : 0 < colours = ltb-true 0 colours parts.0 in
    let few : colours < 128 = ltb-true colours 128 parts.1 in
    let same : colours ≡ length (colours_of (colours_in picture)) = omega (arith, counted, few) in
    let form = rlex_some (colours_of (colours_in picture)) (colours_in picture) (omega (arith, some, same)) (omega (arith, few, same)) in
    let long = ap (λ z. length (part_bytes picture.width picture.height (palette_part (colours_in picture) z))) form
    ∙ segments_part picture.width picture.height (colours_in picture) (colours_of (colours_in picture)) in
    omega (arith, long, same, costs)

palette_none : (clear : ClearState) (picture : Picture) → (nat_lt 0 (length (colours_of (colours_in picture))) && nat_le (length (colours_of (colours_in picture))) 127) ≡ false
    → layer_size clear Palette picture ≡ layer_size clear Plain picture
unfolding sent
palette_none clear picture e =
    let form = rlex_none (colours_of (colours_in picture)) (colours_in picture) e in
    let long = ap (λ z. length (part_bytes picture.width picture.height (palette_part (colours_in picture) z))) form in
    omega (arith, long)

pub palette_plain : (clear : ClearState) (picture : Picture) (colours : ℕ) → colours ≡ colours_counted picture → are_palette colours ≡ false
    → layer_size clear Plain picture ≡ layer_size clear Palette picture
palette_plain clear picture colours counted tested =
    sym (palette_none clear picture (not_tested (length (colours_of (colours_in picture))) colours counted tested))

-- uncompressed
pub raw_is : (picture : Picture) → (sizes_of picture).raw ≡ 4 * (picture.width * picture.height)
unfolding sizes_of
raw_is picture = refl

-- whatever was sent before -------------------------------------------------------------------------------------

palette_alike : (clear other : ClearState) (picture : Picture) → layer_size clear Palette picture ≡ layer_size other Palette picture
unfolding sent
palette_alike clear other picture = refl

pub go_by_no_state : (clear : ClearState) (picture : Picture) → GoByNoState clear picture
unfolding sizes_of
go_by_no_state clear picture = record {
  residual = residual_size fresh picture ∙ sym (residual_size clear picture);
  palette = palette_alike fresh clear picture;
  plain = plain_is fresh picture ∙ sym (plain_is clear picture);
}
