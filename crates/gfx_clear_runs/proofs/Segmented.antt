-- What is written as segments is read back.
use Rattle.std.proofs.Common.{◌≡◌, ℕ, ◌+◌, ◌-◌, ◌*◌, ◌/◌, ◌%◌, ◌<◌, ◌≤◌, ◌^◌, Bool, true, false, List, [], ◌∷◌, ◌++◌, length, take, map, replicate, get_or, zero, suc, refl, sym, ap, ◌∙◌, subst, arith, length-append, Some, None, Ok, inl, inr, ne_eqb}
use Rattle.std.specs.Prelude.{if◌then◌else◌, ◌||◌}
use Rattle.std.specs.List.{flat_map, slice_range}
use Rattle.std.proofs.lemmas.List.{drop_at, drop_more, take_more, take_all, replicate_more}
use Rattle.std.proofs.lemmas.Bool.{le-ltb, le-leb, lt-leb, cases_lt}
use Rattle.std.proofs.lemmas.Nat.{shr_below, shr_split}
use Rattle.std.proofs.lemmas.List.Folds.{list_any-append}
use Rattle.gfx_base.specs.declared.pixel.Rgb.{Rgb}
use Rattle.gfx_base.specs.Colour.{same_colour, has_colour, with_colour, with_colours, colours_of}
use Rattle.gfx_base.proofs.Palettes.{same_is, with_held, with_new, has_with}
use Rattle.gfx_clear_runs.specs.Lengths.{length_spelled}
use Rattle.gfx_clear_runs.specs.Elements.{Element, element, black, pixels_in, entry, entries, stop_bits, segment_at, segment_with, segment_from}
use Rattle.gfx_clear_runs.specs.Reading.{behind, part_of, pixels_of, segments_behind, rlex_of, covered}
use Rattle.gfx_clear_runs.specs.Writing.{Run, run, joined, longest_runs, place_of, entry_spelled, segment_spelled, segments_written, rlex_by, rlex_written}
use Rattle.gfx_clear_runs.specs.Forms.{pixels_in_run, pixels_of_runs, AreLongest}
use Rattle.gfx_clear_runs.specs.declared.palette.TheConstants.{PALETTE_MOST}
use Rattle.gfx_clear_runs.proofs.Parts.{part_none}
use Rattle.gfx_clear_runs.proofs.Collecting.{rlex_none, rlex_much, rlex_some}
use Rattle.gfx_clear_runs.proofs.Segments.{segments_read}
use Rattle.gfx_clear_runs.proofs.Writings.{length_read, AreBelow, below_pixels, pixels_longest, are_longest, front_read, covered_whole}

place_same : (held colour : Rgb) (palette : List Rgb) → same_colour colour held ≡ true → place_of (held ∷ palette) colour ≡ 0
place_same held colour palette e = rw e refl

place_other : (held colour : Rgb) (palette : List Rgb) → same_colour colour held ≡ false → place_of (held ∷ palette) colour ≡ 1 + place_of palette colour
place_other held colour palette e = rw e refl

-- the place of a colour that is held
pub record Placed (palette : List Rgb) (colour : Rgb) : Type 0 where
  pub within : place_of palette colour < length palette
  pub is : get_or palette (place_of palette colour) black ≡ colour

placed_by : (held colour : Rgb) (palette : List Rgb) (same : Bool) → same_colour colour held ≡ same → has_colour (held ∷ palette) colour ≡ true
    → (has_colour palette colour ≡ true → Placed palette colour) → Placed (held ∷ palette) colour
placed_by held colour palette true e h below = record {
  within = omega (arith, place_same held colour palette e);
  is = rw (place_same held colour palette e) (sym (same_is colour held e));
}
placed_by held colour palette false e h below =
    let there : has_colour palette colour ≡ true = rw e at h in
    let p = below there in
    let next : place_of (held ∷ palette) colour ≡ suc (place_of palette colour) = place_other held colour palette e ∙ omega arith in
    record { within = omega (arith, next, p.within); is = rw next p.is }

pub placed : (palette : List Rgb) (colour : Rgb) → has_colour palette colour ≡ true → Placed palette colour
placed [] colour h = absurd cc
placed (held ∷ palette) colour h = placed_by held colour palette (same_colour colour held) refl h (placed palette colour)

-- there are enough bits for each place
pub enough_bits : (n : ℕ) → n ≤ 128 → n ≤ 2 ^ stop_bits n
unfolding stop_bits
enough_bits n few =
    elim (cases_lt n 3) as (λ _. n ≤ 2 ^ stop_bits n) [ inl q0 ↦ rw (le-leb n 2 (omega arith)) (omega arith) | inr p0' ↦ let p0 : 2 < n = omega arith in elim (cases_lt n 5) as (λ _. n ≤ 2 ^ stop_bits n) [ inl q1 ↦ rw (lt-leb n 2 p0, le-leb n 4 (omega arith)) (omega arith) | inr p1' ↦ let p1 : 4 < n = omega arith in elim (cases_lt n 9) as (λ _. n ≤ 2 ^ stop_bits n) [ inl q2 ↦ rw (lt-leb n 2 p0, lt-leb n 4 p1, le-leb n 8 (omega arith)) (omega arith) | inr p2' ↦ let p2 : 8 < n = omega arith in elim (cases_lt n 17) as (λ _. n ≤ 2 ^ stop_bits n) [ inl q3 ↦ rw (lt-leb n 2 p0, lt-leb n 4 p1, lt-leb n 8 p2, le-leb n 16 (omega arith)) (omega arith) | inr p3' ↦ let p3 : 16 < n = omega arith in elim (cases_lt n 33) as (λ _. n ≤ 2 ^ stop_bits n) [ inl q4 ↦ rw (lt-leb n 2 p0, lt-leb n 4 p1, lt-leb n 8 p2, lt-leb n 16 p3, le-leb n 32 (omega arith)) (omega arith) | inr p4' ↦ let p4 : 32 < n = omega arith in elim (cases_lt n 65) as (λ _. n ≤ 2 ^ stop_bits n) [ inl q5 ↦ rw (lt-leb n 2 p0, lt-leb n 4 p1, lt-leb n 8 p2, lt-leb n 16 p3, lt-leb n 32 p4, le-leb n 64 (omega arith)) (omega arith) | inr p5' ↦ let p5 : 64 < n = omega arith in rw (lt-leb n 2 p0, lt-leb n 4 p1, lt-leb n 8 p2, lt-leb n 16 p3, lt-leb n 32 p4, lt-leb n 64 p5) few ] ] ] ] ] ]

small_shr : (n bits : ℕ) → n < 2 ^ bits → n / 2 ^ bits ≡ 0
small_shr n bits small =
    let sum : bits ≡ 0 + bits = omega arith in
    let h : n / 2 ^ bits < 2 ^ 0 = shr_below n 0 bits (subst (λ z. n < 2 ^ z) sum small) in
    omega arith

small_mod : (n bits : ℕ) → n < 2 ^ bits → n % 2 ^ bits ≡ n
small_mod n bits small =
    let none : n / 2 ^ bits ≡ 0 = small_shr n bits small in
    let split : n / 2 ^ bits * 2 ^ bits + n % 2 ^ bits ≡ n = shr_split n bits in
    let left : 0 * 2 ^ bits + n % 2 ^ bits ≡ n = subst (λ z. z * 2 ^ bits + n % 2 ^ bits ≡ n) none split in
    omega arith

one_of : (palette : List Rgb) (place : ℕ) → place < length palette → slice_range palette (place - 0) (place + 1) ≡ get_or palette place black ∷ []
one_of palette place within =
    let same : place - 0 ≡ place = omega arith in
    let one : place + 1 - place ≡ 1 = omega arith in
    rw (same, one, drop_more palette place black within) refl

-- a segment of one place
pub segment_read : (palette : List Rgb) (place n : ℕ) (more : List ℕ) → place < length palette → length palette ≤ 127 → n < 2 ^ 32
    → segment_at palette (place ∷ (length_spelled n ++ more)) ≡ Ok (element (get_or palette place black) n (get_or palette place black ∷ []) (1 + length (length_spelled n)))
unfolding segment_at segment_with segment_from
segment_read palette place n more within few fits =
    let small : place < 2 ^ stop_bits (length palette) = omega (arith, enough_bits (length palette) (omega arith)) in
    let start : place - 0 ≡ place = omega arith in
    rw (
      length_read n more fits,
      small_mod place (stop_bits (length palette)) small,
      small_shr place (stop_bits (length palette)) small,
      lt-leb (length palette) place within,
      le-ltb place 0 (omega arith),
      one_of palette place within,
      start,
    ) refl

-- each colour is held
unfoldable pub HoldsPixels : List Rgb → List Rgb → Type 0
HoldsPixels palette [] = Unit {0}
HoldsPixels palette (pixel ∷ pixels) = (has_colour palette pixel ≡ true) × HoldsPixels palette pixels

unfoldable pub HoldsRuns : List Rgb → List Run → Type 0
HoldsRuns palette [] = Unit {0}
HoldsRuns palette (part ∷ runs) = (has_colour palette part.colour ≡ true) × HoldsRuns palette runs

true_or : (a b : Bool) → a ≡ true → (a || b) ≡ true
true_or a b e = rw e refl

still_by : (palette : List Rgb) (new colour : Rgb) (held : Bool) → has_colour palette new ≡ held → has_colour palette colour ≡ true → has_colour (with_colour palette new) colour ≡ true
still_by palette new colour true e h = ap (λ z. has_colour z colour) (with_held palette new e) ∙ h
still_by palette new colour false e h =
    ap (λ z. has_colour z colour) (with_new palette new e)
    ∙ (list_any-append (same_colour colour) palette (new ∷ []) ∙ true_or (has_colour palette colour) (has_colour (new ∷ []) colour) h)

still_all : (palette pixels : List Rgb) (colour : Rgb) → has_colour palette colour ≡ true → has_colour (with_colours palette pixels) colour ≡ true
unfolding with_colours
still_all palette [] colour h = h
still_all palette (pixel ∷ pixels) colour h = still_all (with_colour palette pixel) pixels colour (still_by palette pixel colour (has_colour palette pixel) refl h)

-- a palette of pixels' colours holds them
pub holds_all : (palette pixels : List Rgb) → HoldsPixels (with_colours palette pixels) pixels
unfolding with_colours HoldsPixels
holds_all palette [] = tt
holds_all palette (pixel ∷ pixels) = (still_all (with_colour palette pixel) pixels pixel (has_with palette pixel), holds_all (with_colour palette pixel) pixels)

holds_by : (palette : List Rgb) (colour : Rgb) (next : Run) (runs : List Run) (same : Bool) → has_colour palette colour ≡ true → HoldsRuns palette (next ∷ runs)
    → HoldsRuns palette (if same then run colour (next.count + 1) ∷ runs else run colour 1 ∷ (next ∷ runs))
unfolding HoldsRuns
holds_by palette colour next runs true h all = (h, all.1)
holds_by palette colour next runs false h all = (h, all)

holds_joined : (palette : List Rgb) (colour : Rgb) (runs : List Run) → has_colour palette colour ≡ true → HoldsRuns palette runs → HoldsRuns palette (joined colour runs)
unfolding joined HoldsRuns
holds_joined palette colour [] h all = (h, tt)
holds_joined palette colour (next ∷ runs) h all = holds_by palette colour next runs (same_colour colour next.colour) h all

pub holds_runs : (palette pixels : List Rgb) → HoldsPixels palette pixels → HoldsRuns palette (longest_runs pixels)
unfolding longest_runs HoldsPixels HoldsRuns
holds_runs palette [] all = tt
holds_runs palette (pixel ∷ pixels) all = holds_joined palette pixel (longest_runs pixels) all.0 (holds_runs palette pixels all.1)

-- how a segment is read
abbrev pub segment_of : List Rgb → Run → Element
segment_of palette part = element part.colour (part.count - 1) (part.colour ∷ []) (length (segment_spelled palette part))

pub run_segment_read : (palette : List Rgb) (part : Run) (more : List ℕ) → has_colour palette part.colour ≡ true → length palette ≤ 127 → part.count < 2 ^ 32
    → segment_at palette (segment_spelled palette part ++ more) ≡ Ok (segment_of palette part)
run_segment_read palette part more h few fits =
    let p = placed palette part.colour h in
    let size : 1 + length (length_spelled (part.count - 1)) ≡ length (segment_spelled palette part) = omega arith in
    segment_read palette (place_of palette part.colour) (part.count - 1) more p.within few (omega arith)
    ∙ (ap (λ z. Ok (element z (part.count - 1) (z ∷ []) (1 + length (length_spelled (part.count - 1))))) p.is
    ∙ ap (λ z. Ok (element part.colour (part.count - 1) (part.colour ∷ []) z)) size)

pub segments_part : (palette : List Rgb) (runs : List Run) → HoldsRuns palette runs → length palette ≤ 127 → AreBelow (2 ^ 32) runs
    → part_of (segment_at palette) (flat_map (segment_spelled palette) runs) ≡ record { elements = map (segment_of palette) runs; refusal = None }
unfolding HoldsRuns AreBelow
segments_part palette [] held few all = part_none (segment_at palette) [] refl
segments_part palette (part ∷ runs) held few all =
    front_read (segment_at palette) (segment_spelled palette part) (flat_map (segment_spelled palette) runs) (segment_of palette part)
    (run_segment_read palette part (flat_map (segment_spelled palette) runs) held.0 few all.0) refl (omega arith)
    ∙ ap (behind (segment_of palette part)) (segments_part palette runs held.1 few all.1)

segment_pixels : (palette : List Rgb) (part : Run) → 0 < part.count → pixels_in (segment_of palette part) ≡ pixels_in_run part
segment_pixels palette part some = replicate_more (part.count - 1) part.colour ∙ ap (λ n. replicate n part.colour) (omega arith)

segments_pixels : (palette : List Rgb) (runs : List Run) → AreLongest runs → pixels_of (map (segment_of palette) runs) ≡ pixels_of_runs runs
unfolding pixels_of AreLongest
segments_pixels palette [] all = refl
segments_pixels palette (part ∷ runs) all =
    ap (λ z. z ++ pixels_of (map (segment_of palette) runs)) (segment_pixels palette part all.0)
    ∙ ap (λ z. pixels_in_run part ++ z) (segments_pixels palette runs all.2)

-- entries are read as they were written
entry_read : (palette : List Rgb) (more : List ℕ) (n : ℕ) → n < length palette → entry (flat_map entry_spelled palette ++ more) n ≡ get_or palette n black
entry_read [] more n within = absurd (omega arith)
entry_read (colour ∷ palette) more zero within = refl
entry_read (colour ∷ palette) more (suc n) within =
    let first : 3 * suc n ≡ suc (suc (suc (3 * n))) = omega arith in
    let second : 3 * suc n + 1 ≡ suc (suc (suc (3 * n + 1))) = omega arith in
    let third : 3 * suc n + 2 ≡ suc (suc (suc (3 * n + 2))) = omega arith in
    let less : n < length palette = omega arith in
    rw (second, third, first) (entry_read palette more n less)

entries_read : (palette : List Rgb) (more : List ℕ) (n : ℕ) → n ≤ length palette → entries n (flat_map entry_spelled palette ++ more) ≡ take n palette
unfolding entries
entries_read palette more zero within = refl
entries_read palette more (suc n) within =
    let one : n + 1 ≡ suc n = omega arith in
    ap (λ z. z ++ entry (flat_map entry_spelled palette ++ more) n ∷ []) (entries_read palette more n (omega arith))
    ∙ (ap (λ z. take n palette ++ z ∷ []) (entry_read palette more n (omega arith)) ∙ (sym (take_more palette n black (omega arith)) ∙ ap (λ z. take z palette) one))

length_entries_spelled : (palette : List Rgb) → length (flat_map entry_spelled palette) ≡ 3 * length palette
length_entries_spelled [] = refl
length_entries_spelled (colour ∷ palette) = omega (arith, length_entries_spelled palette)

palette_read : (palette : List Rgb) (more : List ℕ) → segments_behind (length palette) (flat_map entry_spelled palette ++ more) ≡ part_of (segment_at palette) more
palette_read palette more =
    segments_read (length palette) (flat_map entry_spelled palette ++ more) palette more
    (sym (entries_read palette more (length palette) (omega arith) ∙ take_all (length palette) palette (omega arith)))
    (sym (drop_at (flat_map entry_spelled palette) more (3 * length palette) (length_entries_spelled palette)))
    (omega (arith, length-append (flat_map entry_spelled palette) more, length_entries_spelled palette))

pub rlex_read : (palette : List Rgb) (more : List ℕ) → 0 < length palette → length palette ≤ 127 → rlex_of (length palette ∷ (flat_map entry_spelled palette ++ more)) ≡ part_of (segment_at palette) more
unfolding rlex_of
rlex_read palette more some few = rw (ne_eqb (length palette) 0 (λ e. omega arith), le-ltb PALETTE_MOST (length palette) few) (palette_read palette more)

pub segments_read_back : (palette pixels : List Rgb) → 0 < length palette → length palette ≤ 127 → HoldsPixels palette pixels → length pixels < 2 ^ 32
    → covered (length pixels) (rlex_of (segments_written palette pixels)) ≡ Ok pixels
segments_read_back palette pixels some few held fits =
    let less : length (pixels_of_runs (longest_runs pixels)) < 2 ^ 32 = omega (arith, ap length (pixels_longest pixels)) in
    covered_whole (map (segment_of palette) (longest_runs pixels)) pixels _
    (rlex_read palette (flat_map (segment_spelled palette) (longest_runs pixels)) some few
    ∙ segments_part palette (longest_runs pixels) (holds_runs palette pixels held) few (below_pixels (2 ^ 32) (longest_runs pixels) less))
    (segments_pixels palette (longest_runs pixels) (are_longest pixels) ∙ pixels_longest pixels)

back_by : (palette pixels : List Rgb) (bytes : List ℕ) → HoldsPixels palette pixels → length pixels < 2 ^ 32 → rlex_by palette pixels ≡ Some bytes → covered (length pixels) (rlex_of bytes) ≡ Ok pixels
back_by palette pixels bytes held fits e =
    elim (cases_lt 0 (length palette)) as (λ _. covered (length pixels) (rlex_of bytes) ≡ Ok pixels) [
      | inl some ↦
          elim (cases_lt PALETTE_MOST (length palette)) as (λ _. covered (length pixels) (rlex_of bytes) ≡ Ok pixels) [
            | inl much ↦ let n : rlex_by palette pixels ≡ None = rlex_much palette pixels much in absurd cc
            | inr few ↦
                let w : rlex_by palette pixels ≡ Some (segments_written palette pixels) = rlex_some palette pixels some few in
                let same : segments_written palette pixels ≡ bytes = cc in
                subst (λ z. covered (length pixels) (rlex_of z) ≡ Ok pixels) same (segments_read_back palette pixels some few held fits)
          ]
      | inr none ↦ let n : rlex_by palette pixels ≡ None = rlex_none palette pixels (omega arith) in absurd cc
    ]

pub rlex_read_back : (pixels : List Rgb) (bytes : List ℕ) → length pixels < 2 ^ 32 → rlex_written pixels ≡ Some bytes → covered (length pixels) (rlex_of bytes) ≡ Ok pixels
rlex_read_back pixels bytes fits e = back_by (colours_of pixels) pixels bytes (holds_all [] pixels) fits e
