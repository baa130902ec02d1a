-- How many bytes are sent at most.
use Rattle.std.proofs.Common.{◌≡◌, ◌⊎◌, inl, inr, ℕ, zero, suc, ◌+◌, ◌-◌, ◌*◌, ◌/◌, ◌<◌, ◌≤◌, ◌^◌, min, Bool, true, false, ◌&&◌, cond, nat_le, nat_lt, List, [], ◌∷◌, ◌++◌, length, get_or, Option, Some, None, refl, ap, arith, length-append}
use Rattle.std.specs.List.{flat_map}
use Rattle.std.proofs.lemmas.Bool.{lt-ltb, le-ltb, cases_lt}
use Rattle.std.proofs.lemmas.Bool.Decides.{nat_tests}
use Rattle.std.proofs.lemmas.List.{length-replicate}
use Rattle.gfx_base.specs.declared.pixel.Rgb.{Rgb}
use Rattle.gfx_clear_store.specs.Rings.{Rings, least_place}
use Rattle.gfx_base.specs.Colour.{same_colour}
use Rattle.gfx_clear_store.specs.declared.store.TheConstants.{MOST_BAR}
use Rattle.gfx_clear_runs.specs.Lengths.{length_spelled}
use Rattle.gfx_clear_runs.specs.Writing.{Run, run_spelled, runs_written, longest_runs, entry_spelled, segment_spelled, segments_written, rlex_by, rlex_written}
use Rattle.gfx_base.specs.Colour.{colours_of}
use Rattle.gfx_clear_runs.specs.Forms.{pixels_in_run, pixels_of_runs, AreLongest}
use Rattle.gfx_clear_runs.specs.declared.palette.TheConstants.{PALETTE_MOST}
use Rattle.gfx_clear_runs.proofs.Writings.{pixels_longest, are_longest}
use Rattle.gfx_clear_bands.specs.Writing.{black, column, short_of, row_of, without_front, colour_bytes, sent, sent_bar, sent_short, put, written, after, head_bytes, columns_of, band_elements, elements_within, elements}
use Rattle.gfx_clear_bands.specs.Writing.Element.{Column}
use Rattle.gfx_clear_bands.proofs.Shorts.{length-end, front_pass, front_stop, front_none}
use Rattle.gfx_clear_bands.proofs.Outputs.{written-append}
use Rattle.gfx_clear.specs.declared.area.TheConstants.{AREA}
use Rattle.gfx_clear.specs.declared.layer.Layer.{Layer}
use Rattle.gfx_clear.specs.declared.layer.Layer.TheVariants.{Residual, Bands, Palette, Plain}
use Rattle.gfx_clear.specs.declared.part.Place.{Place}
use Rattle.gfx_clear.specs.declared.part.Place.TheVariants.{ByRuns, ByBands, Subcodec}
use Rattle.gfx_clear.specs.Sending.{palette_part, part_as, size_bytes, area_bytes, placed}

-- three bytes for each colour
pub length-colours : (cs : List Rgb) → length (flat_map colour_bytes cs) ≡ 3 * length cs
length-colours [] = refl
length-colours (c ∷ cs) = omega (arith, length-colours cs)

length-entries : (cs : List Rgb) → length (flat_map entry_spelled cs) ≡ 3 * length cs
length-entries [] = refl
length-entries (c ∷ cs) = omega (arith, length-entries cs)

-- a run length has one byte below 255, and then as many as a quarter of the run
few_spelled : (n : ℕ) → (length (length_spelled n) ≡ 1) ⊎ ((255 ≤ n) × (length (length_spelled n) ≤ 7))
unfolding length_spelled
few_spelled n =
    elim (cases_lt n 255) as (λ _. (length (length_spelled n) ≡ 1) ⊎ ((255 ≤ n) × (length (length_spelled n) ≤ 7))) [
      | inl short ↦ inl (rw (lt-ltb n 255 short) refl)
      | inr more ↦ inr (
        more,
        elim (cases_lt n 65535) as (λ _. length (length_spelled n) ≤ 7) [
          | inl middle ↦ rw (le-ltb n 255 more, lt-ltb n 65535 middle) (omega arith)
          | inr long ↦ rw (le-ltb n 255 more, le-ltb n 65535 long) (omega arith)
        ],
      )
    ]

run_few : (part : Run) → 0 < part.count → length (run_spelled part) ≤ 4 * part.count
run_few part some = by (few_spelled part.count)
  where
    by : (length (length_spelled part.count) ≡ 1) ⊎ ((255 ≤ part.count) × (length (length_spelled part.count) ≤ 7)) → length (run_spelled part) ≤ 4 * part.count
    by (inl short) = omega arith
    by (inr more) = let low = more.0 in let most = more.1 in omega arith

runs_few : (runs : List Run) → AreLongest runs → length (flat_map run_spelled runs) ≤ 4 * length (pixels_of_runs runs)
unfolding AreLongest
runs_few [] all = omega arith
runs_few (part ∷ runs) all =
    let first = run_few part all.0 in
    let others = runs_few runs all.2 in
    omega (arith, length-append (run_spelled part) (flat_map run_spelled runs), length-append (pixels_in_run part) (pixels_of_runs runs), length-replicate part.count part.colour)

-- runs have at most four bytes for each pixel
pub runs_written_few : (pixels : List Rgb) → length (runs_written pixels) ≤ 4 * length pixels
runs_written_few pixels = let few = runs_few (longest_runs pixels) (are_longest pixels) in omega (arith, ap length (pixels_longest pixels))

segment_few : (palette : List Rgb) (part : Run) → 0 < part.count → length (segment_spelled palette part) ≤ 2 * part.count
segment_few palette part some = by (few_spelled (part.count - 1))
  where
    by : (length (length_spelled (part.count - 1)) ≡ 1) ⊎ ((255 ≤ part.count - 1) × (length (length_spelled (part.count - 1)) ≤ 7)) → length (segment_spelled palette part) ≤ 2 * part.count
    by (inl short) = omega arith
    by (inr more) = let low = more.0 in let most = more.1 in omega arith

segments_few : (palette : List Rgb) (runs : List Run) → AreLongest runs → length (flat_map (segment_spelled palette) runs) ≤ 2 * length (pixels_of_runs runs)
unfolding AreLongest
segments_few palette [] all = omega arith
segments_few palette (part ∷ runs) all =
    let first = segment_few palette part all.0 in
    let others = segments_few palette runs all.2 in
    omega (arith, length-append (segment_spelled palette part) (flat_map (segment_spelled palette) runs), length-append (pixels_in_run part) (pixels_of_runs runs), length-replicate part.count part.colour)

rlex_few : (palette pixels : List Rgb) (bytes : List ℕ) → rlex_by palette pixels ≡ Some bytes → length bytes ≤ 382 + 2 * length pixels
unfolding rlex_by
rlex_few palette pixels bytes e = by (nat_lt 0 (length palette)) (nat_le (length palette) PALETTE_MOST) refl refl e
  where
    by : (a b : Bool) → nat_lt 0 (length palette) ≡ a → nat_le (length palette) PALETTE_MOST ≡ b
        → cond (a && b) (Some (segments_written palette pixels)) None ≡ Some bytes → length bytes ≤ 382 + 2 * length pixels
    by true true some most e =
        let same : segments_written palette pixels ≡ bytes = cc in
        let low : length palette ≤ 127 = grind (arith, nat_tests) in
        let few = segments_few palette (longest_runs pixels) (are_longest pixels) in
        omega (arith, ap length same, ap length (pixels_longest pixels), length-append (flat_map entry_spelled palette) (flat_map (segment_spelled palette) (longest_runs pixels)), length-entries palette)
    by true false some most e = absurd cc
    by false b some most e = absurd cc

-- a palette and its segments
pub rlex_written_few : (pixels : List Rgb) (bytes : List ℕ) → rlex_written pixels ≡ Some bytes → length bytes ≤ 382 + 2 * length pixels
rlex_written_few pixels bytes e = rlex_few (colours_of pixels) pixels bytes e

length-front : (background : Rgb) (xs : List Rgb) → length (without_front background xs) ≤ length xs
length-front background [] = let e = ap length (front_none background) in omega arith
length-front background (x ∷ xs) = by (same_colour x background) refl (length-front background xs)
  where
    by : (b : Bool) → same_colour x background ≡ b → length (without_front background xs) ≤ length xs → length (without_front background (x ∷ xs)) ≤ length (x ∷ xs)
    by true is rest = let e = ap length (front_pass background x xs is) in omega arith
    by false is rest = let e = ap length (front_stop background x xs is) in omega arith

short_few : (background : Rgb) (xs : List Rgb) → length (short_of background xs) ≤ length xs
short_few background xs = let a = length-front background xs in let b = length-end background (without_front background xs) in omega arith

sent_short_few : (old : Rings) (pixels : List Rgb) (on : ℕ) (short : List Rgb) (place : Option ℕ) → 1 ≤ length pixels → length short ≤ length pixels → length (sent_short old pixels on short place).bytes ≤ 5 * length pixels
sent_short_few old pixels on short (Some place) some less = omega arith
sent_short_few old pixels on short None some less = let e = length-colours short in omega arith

sent_bar_few : (old : Rings) (background : Rgb) (pixels : List Rgb) (place : Option ℕ) → 1 ≤ length pixels → length (sent_bar old background pixels place).bytes ≤ 5 * length pixels
sent_bar_few old background pixels (Some place) some = omega arith
sent_bar_few old background pixels None some =
    sent_short_few old pixels (row_of background pixels) (short_of background pixels) (least_place (short_of background pixels) old.shorts) some (short_few background pixels)

-- a column has at most five bytes for each pixel
column_few : (old : Rings) (background : Rgb) (pixels : List Rgb) → 1 ≤ length pixels → length (put old (Column background pixels)).bytes ≤ 5 * length pixels
unfolding put sent
column_few old background pixels some = sent_bar_few old background pixels (least_place pixels old.bars) some

length-column : (width : ℕ) (pixels : List Rgb) (at n : ℕ) → length (column width pixels at n) ≡ n
unfolding column
length-column width pixels at zero = refl
length-column width pixels at (suc n) = ap suc (length-column width pixels (at + width) n)

columns_few : (old : Rings) (width : ℕ) (pixels : List Rgb) (background : Rgb) (rows at n : ℕ) → 1 ≤ rows → length (written old (columns_of width pixels background rows at n)) ≤ 5 * rows * n
unfolding written columns_of
columns_few old width pixels background rows at zero some = omega arith
columns_few old width pixels background rows at (suc n) some =
    let col = column width pixels at rows in
    let long = length-column width pixels at rows in
    let first = column_few old background col (omega (arith, long)) in
    let others = columns_few (put old (Column background col)).rings width pixels background rows (at + 1) n some in
    let product : 5 * rows * suc n ≡ 5 * rows + 5 * rows * n = omega arith in
    omega (arith, length-append (put old (Column background col)).bytes (written (put old (Column background col)).rings (columns_of width pixels background rows (at + 1) n)))

length-head : (width top rows : ℕ) (background : Rgb) → length (head_bytes width top rows background) ≡ 11
unfolding head_bytes
length-head width top rows background = refl

band_few : (old : Rings) (width : ℕ) (pixels : List Rgb) (top rows : ℕ) → 1 ≤ rows → length (written old (band_elements width pixels top rows)) ≤ 11 + 5 * rows * width
unfolding written put
band_few old width pixels top rows some =
    let background = get_or pixels (top * width) black in
    let head = head_bytes width top rows background in
    let columns = columns_few old width pixels background rows (top * width) width some in
    omega (arith, length-append head (written old (columns_of width pixels background rows (top * width) width)), length-head width top rows background)

rows_left : (rows : ℕ) → 1 ≤ rows → (rows - min MOST_BAR rows + 51) / 52 + 1 ≤ (rows + 51) / 52
rows_left rows some = omega arith

elements_few : (most : ℕ) (old : Rings) (width : ℕ) (pixels : List Rgb) (top rows : ℕ) → length (written old (elements_within most width pixels top rows)) ≤ 5 * width * rows + 11 * ((rows + 51) / 52)
unfolding elements_within written
elements_few zero old width pixels top rows = omega arith
elements_few (suc most) old width pixels top zero = omega arith
elements_few (suc most) old width pixels top (suc rows) =
    let n = min MOST_BAR (suc rows) in
    let band = band_elements width pixels top n in
    let rest = elements_within most width pixels (top + n) (suc rows - n) in
    let first = band_few old width pixels top n (omega arith) in
    let others = elements_few most (after old band) width pixels (top + n) (suc rows - n) in
    let cut : suc rows ≡ n + (suc rows - n) = omega arith in
    let product : 5 * width * suc rows ≡ 5 * width * (n + (suc rows - n)) = ap (λ z. 5 * width * z) cut in
    let parts : 5 * width * (n + (suc rows - n)) ≡ 5 * n * width + 5 * width * (suc rows - n) = omega arith in
    let left = rows_left (suc rows) (omega arith) in
    omega (arith, ap length (written-append old band rest), length-append (written old band) (written (after old band) rest))

-- bands of a picture
pub bands_few : (old : Rings) (width height : ℕ) (pixels : List Rgb) → height < 2 ^ 16 → length pixels ≡ width * height → length (written old (elements width height pixels)) ≤ 5 * length pixels + 18000
bands_few old width height pixels high whole =
    let few = elements_few height old width pixels 0 height in
    let product : 5 * width * height ≡ 5 * (width * height) = omega arith in
    omega arith

palette_few : (pixels : List Rgb) (form : Option (List ℕ)) → rlex_written pixels ≡ form → length (palette_part pixels form).bytes ≤ 5 * length pixels + 18000
palette_few pixels (Some bytes) e = let few = rlex_written_few pixels bytes e in omega arith
palette_few pixels None e = let few = length-colours pixels in omega arith

-- a picture has at most five bytes for each pixel, and those of its heads
pub part_few : (layer : Layer) (old : Rings) (width height : ℕ) (pixels : List Rgb) → height < 2 ^ 16 → length pixels ≡ width * height → length (part_as layer old width height pixels).bytes ≤ 5 * length pixels + 18000
part_few Residual old width height pixels high whole = let few = runs_written_few pixels in omega arith
part_few Bands old width height pixels high whole = bands_few old width height pixels high whole
part_few Palette old width height pixels high whole = palette_few pixels (rlex_written pixels) refl
part_few Plain old width height pixels high whole = let few = length-colours pixels in omega arith

size_of_sizes : (a b c : ℕ) → length (size_bytes a b c) ≡ 12
unfolding size_bytes
size_of_sizes a b c = refl

size_of_area : (width height size codec : ℕ) → length (area_bytes width height size codec) ≡ 13
unfolding area_bytes
size_of_area width height size codec = refl

-- with the sizes before it
pub placed_few : (place : Place) (width height : ℕ) (bytes : List ℕ) → length (placed place width height bytes) ≤ 25 + length bytes
placed_few ByRuns width height bytes = omega (arith, length-append (size_bytes (length bytes) 0 0) bytes, size_of_sizes (length bytes) 0 0)
placed_few ByBands width height bytes = omega (arith, length-append (size_bytes 0 (length bytes) 0) bytes, size_of_sizes 0 (length bytes) 0)
placed_few (Subcodec codec) width height bytes =
    omega (
      arith,
      length-append (size_bytes 0 0 (AREA + length bytes)) (area_bytes width height (length bytes) codec ++ bytes),
      size_of_sizes 0 0 (AREA + length bytes),
      length-append (area_bytes width height (length bytes) codec) bytes,
      size_of_area width height (length bytes) codec,
    )
