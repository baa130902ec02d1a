-- Longest runs, and what is written for them.
use Rattle.std.proofs.Common.{◌≡◌, ℕ, ◌+◌, ◌<◌, ◌^◌, Bool, true, false, List, [], ◌∷◌, ◌++◌, length, drop, map, replicate, zero, suc, refl, sym, ap, ◌∙◌, subst, arith, length-append, Some, None, Result, Ok, inl, inr, ne_eqb}
use Rattle.std.specs.Prelude.{if◌then◌else◌}
use Rattle.std.specs.Int.{w16, w32, to_le_bytes}
use Rattle.std.specs.List.{flat_map}
use Rattle.std.proofs.lemmas.List.{append-nil, length-replicate, drop_at}
use Rattle.std.proofs.lemmas.Bool.{lt-ltb, le-ltb, le-leb, cases_lt}
use Rattle.gfx_base.specs.Field.{field}
use Rattle.gfx_base.proofs.FieldLemmas.{number_at-written_2, number_at-written_4}
use Rattle.gfx_base.specs.declared.pixel.Rgb.{Rgb}
use Rattle.gfx_base.specs.declared.refusal.Refusal.{Refusal}
use Rattle.gfx_clear_runs.specs.Lengths.{lasts, length_at, middle_length, long_length, length_spelled}
use Rattle.gfx_clear_runs.specs.Elements.{Element, element, pixels_in, run_at, run_with}
use Rattle.gfx_clear_runs.specs.Reading.{Part, behind, part_of, pixels_of, total_of, covered, runs_of}
use Rattle.gfx_clear_runs.specs.Writing.{Run, run, joined, longest_runs, run_spelled, runs_written}
use Rattle.gfx_clear_runs.specs.Inner.{begins}
use Rattle.gfx_clear_runs.specs.Forms.{pixels_in_run, pixels_of_runs, starts, AreLongest, IsForm}
use Rattle.gfx_clear_runs.proofs.Parts.{part_none, part_step}
use Rattle.gfx_clear_runs.proofs.Appending.{covering_whole}
use Rattle.gfx_base.specs.Colour.{same_colour}
use Rattle.gfx_base.proofs.Palettes.{same_is}
use Rattle.gfx_clear_runs.proofs.Colours.{longest_front}

-- one more pixel
joined_by : (colour : Rgb) (next : Run) (runs : List Run) (same : Bool) → same_colour colour next.colour ≡ same
    → pixels_of_runs (if same then run colour (next.count + 1) ∷ runs else run colour 1 ∷ (next ∷ runs)) ≡ colour ∷ pixels_of_runs (next ∷ runs)
joined_by colour next runs true e =
    let one : next.count + 1 ≡ suc next.count = omega arith in
    let c : colour ≡ next.colour = same_is colour next.colour e in
    rw (one, c) refl
joined_by colour next runs false e = refl

pixels_joined : (colour : Rgb) (runs : List Run) → pixels_of_runs (joined colour runs) ≡ colour ∷ pixels_of_runs runs
unfolding joined
pixels_joined colour [] = refl
pixels_joined colour (next ∷ runs) = joined_by colour next runs (same_colour colour next.colour) refl

-- longest runs have these pixels
pub pixels_longest : (pixels : List Rgb) → pixels_of_runs (longest_runs pixels) ≡ pixels
unfolding longest_runs
pixels_longest [] = refl
pixels_longest (pixel ∷ pixels) = pixels_joined pixel (longest_runs pixels) ∙ ap (λ z. pixel ∷ z) (pixels_longest pixels)

longest_by : (colour : Rgb) (next : Run) (runs : List Run) (same : Bool) → same_colour colour next.colour ≡ same → AreLongest (next ∷ runs)
    → AreLongest (if same then run colour (next.count + 1) ∷ runs else run colour 1 ∷ (next ∷ runs))
unfolding AreLongest starts
longest_by colour next runs true e (some, other, rest) = (omega arith, subst (λ z. starts z runs ≡ false) (sym (same_is colour next.colour e)) other, rest)
longest_by colour next runs false e all = (omega arith, e, all)

longest_joined : (colour : Rgb) (runs : List Run) → AreLongest runs → AreLongest (joined colour runs)
unfolding joined AreLongest starts
longest_joined colour [] all = (omega arith, refl, tt)
longest_joined colour (next ∷ runs) all = longest_by colour next runs (same_colour colour next.colour) refl all

pub are_longest : (pixels : List Rgb) → AreLongest (longest_runs pixels)
unfolding longest_runs AreLongest
are_longest [] = tt
are_longest (pixel ∷ pixels) = longest_joined pixel (longest_runs pixels) (are_longest pixels)

begins_by : (colour other : Rgb) (n : ℕ) (rest : List Rgb) → 0 < n → same_colour colour other ≡ false → begins colour (replicate n other ++ rest) ≡ false
unfolding begins
begins_by colour other zero rest some e = absurd (omega arith)
begins_by colour other (suc n) rest some e = e

longest_at : (n : ℕ) (colour : Rgb) (rest : List Rgb) → 0 < n → begins colour rest ≡ false → longest_runs (replicate n colour ++ rest) ≡ run colour n ∷ longest_runs rest
longest_at zero colour rest some e = absurd (omega arith)
longest_at (suc n) colour rest some e = longest_front n colour rest e

begins_runs : (colour : Rgb) (runs : List Run) → AreLongest runs → starts colour runs ≡ false → begins colour (pixels_of_runs runs) ≡ false
unfolding begins AreLongest starts
begins_runs colour [] all e = refl
begins_runs colour (next ∷ runs) all e = begins_by colour next.colour next.count (pixels_of_runs runs) all.0 e

-- and no other runs are longest
pub longest_once : (runs : List Run) → AreLongest runs → longest_runs (pixels_of_runs runs) ≡ runs
unfolding longest_runs AreLongest
longest_once [] all = refl
longest_once (part ∷ runs) all =
    longest_at part.count part.colour (pixels_of_runs runs) all.0 (begins_runs part.colour runs all.2 all.1)
    ∙ ap (λ z. part ∷ z) (longest_once runs all.2)

pub one_form : (pixels : List Rgb) (one other : List ℕ) → IsForm pixels one → IsForm pixels other → one ≡ other
one_form pixels one other form again =
    let same : form.runs ≡ again.runs
    = sym (longest_once form.runs form.longest) ∙ (ap longest_runs (form.gives ∙ sym again.gives) ∙ longest_once again.runs again.longest) in
    form.spelled ∙ (ap (flat_map run_spelled) same ∙ sym again.spelled)

pub form_written : (pixels : List Rgb) → IsForm pixels (runs_written pixels)
form_written pixels = record { runs = longest_runs pixels; longest = are_longest pixels; gives = pixels_longest pixels; spelled = refl }

-- fields behind a front are read
field_2 : (front more : List ℕ) (n : ℕ) → n < 2 ^ 16 → field w16 (front ++ (to_le_bytes w16 n ++ more)) (length front) ≡ Some n
unfolding field
field_2 front more n fits =
    rw (le-leb (length front + 2) (length (front ++ (to_le_bytes w16 n ++ more))) (omega (arith, length-append front (to_le_bytes w16 n ++ more), length-append (to_le_bytes w16 n) more)), number_at-written_2 front more n fits) refl

field_4 : (front more : List ℕ) (n : ℕ) → n < 2 ^ 32 → field w32 (front ++ (to_le_bytes w32 n ++ more)) (length front) ≡ Some n
unfolding field
field_4 front more n fits =
    rw (le-leb (length front + 4) (length (front ++ (to_le_bytes w32 n ++ more))) (omega (arith, length-append front (to_le_bytes w32 n ++ more), length-append (to_le_bytes w32 n) more)), number_at-written_4 front more n fits) refl

pub short_read : (n : ℕ) (more : List ℕ) → n < 255 → length_at (n ∷ more) ≡ Some (lasts n 1)
unfolding length_at
short_read n more short = rw (ne_eqb n 255 (λ e. omega arith)) refl

pub middle_read : (n : ℕ) (more : List ℕ) → n < 65535 → length_at (255 ∷ (to_le_bytes w16 n ++ more)) ≡ Some (lasts n 3)
unfolding length_at middle_length
middle_read n more middle = rw (field_2 (255 ∷ []) more n (omega arith), ne_eqb n 65535 (λ e. omega arith)) refl

marks_read : (rest : List ℕ) → field w16 (255 ∷ (255 ∷ (255 ∷ rest))) 1 ≡ Some 65535
unfolding field
marks_read rest = rw (le-leb 3 (length (255 ∷ (255 ∷ (255 ∷ rest)))) (omega arith)) refl

pub long_read : (n : ℕ) (more : List ℕ) → n < 2 ^ 32 → length_at (255 ∷ (255 ∷ (255 ∷ (to_le_bytes w32 n ++ more)))) ≡ Some (lasts n 7)
unfolding length_at middle_length long_length
long_read n more fits = rw (field_4 (255 ∷ (255 ∷ (255 ∷ []))) more n fits, marks_read (to_le_bytes w32 n ++ more)) refl

-- the shortest spelling is read
pub length_read : (n : ℕ) (more : List ℕ) → n < 2 ^ 32 → length_at (length_spelled n ++ more) ≡ Some (lasts n (length (length_spelled n)))
unfolding length_spelled
length_read n more fits =
    elim (cases_lt n 255) as (λ _. length_at (length_spelled n ++ more) ≡ Some (lasts n (length (length_spelled n)))) [
      | inl short ↦ rw (lt-ltb n 255 short) (short_read n more short)
      | inr past ↦
          elim (cases_lt n 65535) as (λ _. length_at (length_spelled n ++ more) ≡ Some (lasts n (length (length_spelled n)))) [
            | inl middle ↦ rw (le-ltb n 255 past, lt-ltb n 65535 middle) (middle_read n more middle)
            | inr long ↦ rw (le-ltb n 255 past, le-ltb n 65535 long) (long_read n more fits)
          ]
    ]

-- each count is below this
unfoldable pub AreBelow : ℕ → List Run → Type 0
AreBelow limit [] = Unit {0}
AreBelow limit (part ∷ runs) = (part.count < limit) × AreBelow limit runs

pub below_pixels : (limit : ℕ) (runs : List Run) → length (pixels_of_runs runs) < limit → AreBelow limit runs
unfolding AreBelow
below_pixels limit [] e = tt
below_pixels limit (part ∷ runs) e =
    let whole = length-append (pixels_in_run part) (pixels_of_runs runs) in
    let front = length-replicate part.count part.colour in
    (omega (arith, whole, front), below_pixels limit runs (omega (arith, whole)))

-- how a run is read
abbrev pub element_of : Run → Element
element_of part = element part.colour part.count [] (length (run_spelled part))

pub run_read : (part : Run) (more : List ℕ) → part.count < 2 ^ 32 → run_at (run_spelled part ++ more) ≡ Ok (element_of part)
unfolding run_at run_with
run_read part more fits =
    let size : 3 + length (length_spelled part.count) ≡ length (run_spelled part) = omega arith in
    rw (length_read part.count more fits) (ap (λ z. Ok (element part.colour part.count [] z)) size)

-- a front that is an element, and the part behind it
pub front_read : (at : List ℕ → Result Element Refusal) (front rest : List ℕ) (found : Element) → at (front ++ rest) ≡ Ok found → found.size ≡ length front → 0 < length front
    → part_of at (front ++ rest) ≡ behind found (part_of at rest)
front_read at front rest found e size some =
    part_step at (front ++ rest) found e (omega (arith, length-append front rest)) (omega arith)
    ∙ ap (λ z. behind found (part_of at z)) (ap (λ n. drop n (front ++ rest)) size ∙ drop_at front rest (length front) refl)

pub runs_read : (runs : List Run) → AreBelow (2 ^ 32) runs → part_of run_at (flat_map run_spelled runs) ≡ record { elements = map element_of runs; refusal = None }
unfolding AreBelow
runs_read [] all = part_none run_at [] refl
runs_read (part ∷ runs) all =
    front_read run_at (run_spelled part) (flat_map run_spelled runs) (element_of part) (run_read part (flat_map run_spelled runs) all.0) refl (omega arith)
    ∙ ap (behind (element_of part)) (runs_read runs all.1)

pixels_read : (runs : List Run) → pixels_of (map element_of runs) ≡ pixels_of_runs runs
unfolding pixels_of
pixels_read [] = refl
pixels_read (part ∷ runs) = ap (λ z. z ++ pixels_of (map element_of runs)) (append-nil (pixels_in_run part)) ∙ ap (λ z. pixels_in_run part ++ z) (pixels_read runs)

-- there are as many pixels as their total
pub total_pixels : (elements : List Element) → total_of elements ≡ length (pixels_of elements)
unfolding total_of pixels_of
total_pixels [] = refl
total_pixels (found ∷ elements) =
    omega (
      arith,
      length-append (pixels_in found) (pixels_of elements),
      length-append (replicate found.count found.colour) found.more,
      length-replicate found.count found.colour,
      total_pixels elements,
    )

pub covered_whole : (elements : List Element) (pixels : List Rgb) (part : Part) → part ≡ record { elements = elements; refusal = None } → pixels_of elements ≡ pixels → covered (length pixels) part ≡ Ok pixels
covered_whole elements pixels part e f =
    rw e (covering_whole (length pixels) elements (total_pixels elements ∙ ap length f) ∙ ap (λ z. Ok z) f)

pub read_back : (pixels : List Rgb) → length pixels < 2 ^ 32 → covered (length pixels) (runs_of (runs_written pixels)) ≡ Ok pixels
read_back pixels fits =
    let few : length (pixels_of_runs (longest_runs pixels)) < 2 ^ 32 = omega (arith, ap length (pixels_longest pixels)) in
    covered_whole (map element_of (longest_runs pixels)) pixels _ (runs_read (longest_runs pixels) (below_pixels (2 ^ 32) (longest_runs pixels) few))
    (pixels_read (longest_runs pixels) ∙ pixels_longest pixels)
