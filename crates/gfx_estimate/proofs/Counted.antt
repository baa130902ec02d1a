-- Runs that are counted pixel by pixel.
use Rattle.std.proofs.Common.{◌≡◌, ℕ, ◌+◌, ◌-◌, ◌*◌, ◌<◌, Bool, true, false, List, [], ◌∷◌, ◌++◌, length, drop, replicate, zero, suc, refl, sym, ap, ◌∙◌, subst, arith, length-append}
use Rattle.std.specs.Prelude.{if◌then◌else◌, ◌==◌}
use Rattle.std.specs.List.{flat_map}
use Rattle.std.proofs.lemmas.Bool.{ne_eqb}
use Rattle.std.proofs.lemmas.List.{drop_all}
use Rattle.std.proofs.Math.Nat.{mul_comm}
use Rattle.gfx_base.proofs.Palettes.{same_is}
use Rattle.gfx_base.specs.Colour.{colour_of, same_colour}
use Rattle.gfx_base.specs.declared.pixel.Rgb.{Rgb}
use Rattle.gfx_chooser.proofs.Counting.{colours_from, length-colours_in}
use Rattle.gfx_chooser.specs.Facts.{colours_in}
use Rattle.gfx_clear_bands.specs.Writing.{black}
use Rattle.gfx_clear_runs.proofs.Colours.{longest_front}
use Rattle.gfx_clear_runs.specs.Inner.{begins}
use Rattle.gfx_clear_runs.specs.Lengths.{length_spelled}
use Rattle.gfx_clear_runs.specs.Writing.{Run, run, longest_runs, run_spelled, segment_spelled}
use Rattle.gfx_script.specs.Patterns.{pixel_of}
use Rattle.gfx_script.specs.declared.picture.Picture.{Picture}
use Rattle.gfx_estimate.specs.Inner.{run_bytes, segment_bytes, turned, taken}
use Rattle.gfx_estimate.specs.Passes.{step_between, steps_from}
use Rattle.gfx_estimate.specs.declared.runs.Runs.{Runs}

-- how many bytes pixels have, each of whose longest runs is spelled so
abbrev pub spelled_size : (Run → List ℕ) → List Rgb → ℕ
spelled_size spell pixels = length (flat_map spell (longest_runs pixels))

-- a segment of whatever palette is as long as one of none
abbrev pub plain_segment : Run → List ℕ
plain_segment = segment_spelled []

-- pixels behind those of the run under way
abbrev pub with_run : Runs → List Rgb → List Rgb
with_run runs rest = replicate runs.count runs.colour ++ rest

-- the runs of pixels are counted up to the rest of them
pub record Counted (pixels : List Rgb) (runs : Runs) (rest : List Rgb) : Type 0 where
  pub residual : runs.residual + spelled_size run_spelled (with_run runs rest) ≡ spelled_size run_spelled pixels
  pub segments : runs.segments + spelled_size plain_segment (with_run runs rest) ≡ spelled_size plain_segment pixels
  pub steps : runs.steps + steps_from runs.colour rest ≡ steps_from black pixels

-- one more of a colour
grown : (n : ℕ) (colour : Rgb) (rest : List Rgb) → replicate (n + 1) colour ++ rest ≡ replicate n colour ++ (colour ∷ rest)
grown zero colour rest = refl
grown (suc n) colour rest =
    let more : suc n + 1 ≡ suc (n + 1) = omega arith in
    ap (λ z. replicate z colour ++ rest) more ∙ ap (λ z. colour ∷ z) (grown n colour rest)

-- a run that has ended costs its own bytes
front_by : (spell : Run → List ℕ) (n : ℕ) (colour : Rgb) (rest : List Rgb) → begins colour rest ≡ false
    → spelled_size spell (replicate (suc n) colour ++ rest) ≡ length (spell (run colour (suc n))) + spelled_size spell rest
front_by spell n colour rest other =
    ap (λ z. length (flat_map spell z)) (longest_front n colour rest other)
    ∙ length-append (spell (run colour (suc n))) (flat_map spell (longest_runs rest))

residual_front : (n : ℕ) (colour : Rgb) (rest : List Rgb) → begins colour rest ≡ false
    → spelled_size run_spelled (replicate n colour ++ rest) ≡ run_bytes n + spelled_size run_spelled rest
residual_front zero colour rest other = omega arith
residual_front (suc n) colour rest other =
    let some : (suc n == 0) ≡ false = ne_eqb (suc n) 0 (λ e. omega arith) in
    let own : length (run_spelled (run colour (suc n))) ≡ run_bytes (suc n) =
    omega arith ∙ sym (ap (λ b. if b then 0 else 3 + length (length_spelled (suc n))) some) in
    front_by run_spelled n colour rest other ∙ ap (λ z. z + spelled_size run_spelled rest) own

segments_front : (n : ℕ) (colour : Rgb) (rest : List Rgb) → begins colour rest ≡ false
    → spelled_size plain_segment (replicate n colour ++ rest) ≡ segment_bytes n + spelled_size plain_segment rest
segments_front zero colour rest other = omega arith
segments_front (suc n) colour rest other =
    let some : (suc n == 0) ≡ false = ne_eqb (suc n) 0 (λ e. omega arith) in
    let own : length (plain_segment (run colour (suc n))) ≡ segment_bytes (suc n) =
    omega arith ∙ sym (ap (λ b. if b then 0 else 1 + length (length_spelled (suc n - 1))) some) in
    front_by plain_segment n colour rest other ∙ ap (λ z. z + spelled_size plain_segment rest) own

-- from a colour to itself there is no step
no_step : (colour : Rgb) → step_between colour colour ≡ 0
no_step colour = omega arith

begins_other : (colour pixel : Rgb) (rest : List Rgb) → same_colour colour pixel ≡ false → begins colour (pixel ∷ rest) ≡ false
unfolding begins
begins_other colour pixel rest other = other

begins_nothing : (colour : Rgb) → begins colour [] ≡ false
unfolding begins
begins_nothing colour = refl

steps_one : (last pixel : Rgb) (rest : List Rgb) → steps_from last (pixel ∷ rest) ≡ step_between last pixel + steps_from pixel rest
unfolding steps_from
steps_one last pixel rest = refl

-- before the first pixel
pub counted_start : (pixels : List Rgb) (runs : Runs) → runs.residual ≡ 0 → runs.segments ≡ 0 → runs.steps ≡ 0 → runs.colour ≡ black → runs.count ≡ 0 → Counted pixels runs pixels
counted_start pixels runs residual segments steps colour count =
    let none : with_run runs pixels ≡ pixels = ap (λ n. replicate n runs.colour ++ pixels) count in
    let spelled : spelled_size run_spelled (with_run runs pixels) ≡ spelled_size run_spelled pixels = ap (spelled_size run_spelled) none in
    let placed : spelled_size plain_segment (with_run runs pixels) ≡ spelled_size plain_segment pixels = ap (spelled_size plain_segment) none in
    let stepped : steps_from runs.colour pixels ≡ steps_from black pixels = ap (λ c. steps_from c pixels) colour in
    record {
      residual = omega (arith, residual, spelled);
      segments = omega (arith, segments, placed);
      steps = omega (arith, steps, stepped);
    }

-- one more pixel of the same colour, and one of another
counted_same : (pixels : List Rgb) (runs : Runs) (pixel : Rgb) (rest : List Rgb) → runs.colour ≡ pixel → Counted pixels runs (pixel ∷ rest)
    → Counted pixels (record runs { count = runs.count + 1 }) rest
counted_same pixels runs pixel rest same counted =
    let whole : with_run (record runs { count = runs.count + 1 }) rest ≡ with_run runs (pixel ∷ rest) =
    grown runs.count runs.colour rest ∙ ap (λ z. replicate runs.count runs.colour ++ (z ∷ rest)) same in
    let none : step_between runs.colour pixel ≡ 0 = ap (step_between runs.colour) (sym same) ∙ no_step runs.colour in
    let behind : steps_from pixel rest ≡ steps_from runs.colour rest = ap (λ c. steps_from c rest) (sym same) in
    record {
      residual = ap (λ z. runs.residual + spelled_size run_spelled z) whole ∙ counted.residual;
      segments = ap (λ z. runs.segments + spelled_size plain_segment z) whole ∙ counted.segments;
      steps = omega (arith, steps_one runs.colour pixel rest, none, behind, counted.steps);
    }

counted_other : (pixels : List Rgb) (runs : Runs) (pixel : Rgb) (rest : List Rgb) → same_colour runs.colour pixel ≡ false → Counted pixels runs (pixel ∷ rest)
    → Counted pixels (turned runs pixel) rest
counted_other pixels runs pixel rest other counted =
    let begun : begins runs.colour (pixel ∷ rest) ≡ false = begins_other runs.colour pixel rest other in
    let residual = residual_front runs.count runs.colour (pixel ∷ rest) begun in
    let segments = segments_front runs.count runs.colour (pixel ∷ rest) begun in
    let steps = steps_one runs.colour pixel rest in
    record {
      residual = omega (arith, residual, counted.residual);
      segments = omega (arith, segments, counted.segments);
      steps = omega (arith, steps, counted.steps);
    }

counted_by : (pixels : List Rgb) (runs : Runs) (pixel : Rgb) (rest : List Rgb) (same : Bool) → same_colour runs.colour pixel ≡ same → Counted pixels runs (pixel ∷ rest)
    → Counted pixels (if same then record runs { count = runs.count + 1 } else turned runs pixel) rest
counted_by pixels runs pixel rest true is counted = counted_same pixels runs pixel rest (same_is runs.colour pixel is) counted
counted_by pixels runs pixel rest false is counted = counted_other pixels runs pixel rest is counted

pub counted_next : (pixels : List Rgb) (runs : Runs) (pixel : Rgb) (rest : List Rgb) → Counted pixels runs (pixel ∷ rest) → Counted pixels (taken runs pixel) rest
unfolding taken
counted_next pixels runs pixel rest counted = counted_by pixels runs pixel rest (same_colour runs.colour pixel) refl counted

-- the next pixel of a picture
pub counted_at : (picture : Picture) (runs new : Runs) (pixel : Rgb) (x y : ℕ) → x < picture.width → y < picture.height → pixel ≡ colour_of (pixel_of picture x y) → new ≡ taken runs pixel
    → Counted (colours_in picture) runs (drop (y * picture.width + x) (colours_in picture)) → Counted (colours_in picture) new (drop (y * picture.width + (x + 1)) (colours_in picture))
counted_at picture runs new pixel x y column row is one counted =
    let at : y * picture.width + x + 1 ≡ y * picture.width + (x + 1) = omega arith in
    let parts : drop (y * picture.width + x) (colours_in picture) ≡ pixel ∷ drop (y * picture.width + (x + 1)) (colours_in picture) =
    colours_from picture x y column row ∙ (λ i. sym is i ∷ drop (at i) (colours_in picture)) in
    subst (λ z. Counted (colours_in picture) z (drop (y * picture.width + (x + 1)) (colours_in picture))) (sym one)
    (counted_next (colours_in picture) runs pixel (drop (y * picture.width + (x + 1)) (colours_in picture))
    (subst (Counted (colours_in picture) runs) parts counted))

-- all pixels were seen
counted_all : (picture : Picture) (runs : Runs) (y : ℕ) → y ≡ picture.height → Counted (colours_in picture) runs (drop (y * picture.width) (colours_in picture)) → Counted (colours_in picture) runs []
counted_all picture runs y all counted =
    let area : picture.width * picture.height ≡ y * picture.width = mul_comm picture.width picture.height ∙ ap (λ n. n * picture.width) (sym all) in
    subst (Counted (colours_in picture) runs) (drop_all (y * picture.width) (colours_in picture) (omega (arith, length-colours_in picture, area))) counted

pub residual_all : (picture : Picture) (runs : Runs) (y : ℕ) → y ≡ picture.height → Counted (colours_in picture) runs (drop (y * picture.width) (colours_in picture))
    → runs.residual + run_bytes runs.count ≡ spelled_size run_spelled (colours_in picture)
unfolding longest_runs
residual_all picture runs y all counted =
    let whole = counted_all picture runs y all counted in
    let last : spelled_size run_spelled (with_run runs []) ≡ run_bytes runs.count + 0 = residual_front runs.count runs.colour [] (begins_nothing runs.colour) in
    omega (arith, whole.residual, last)

segments_alike : (palette : List Rgb) (runs : List Run) → length (flat_map plain_segment runs) ≡ length (flat_map (segment_spelled palette) runs)
segments_alike palette [] = refl
segments_alike palette (part ∷ runs) =
    omega (
      arith,
      length-append (plain_segment part) (flat_map plain_segment runs),
      length-append (segment_spelled palette part) (flat_map (segment_spelled palette) runs),
      segments_alike palette runs,
    )

pub segments_all : (picture : Picture) (runs : Runs) (y : ℕ) (palette : List Rgb) → y ≡ picture.height → Counted (colours_in picture) runs (drop (y * picture.width) (colours_in picture))
    → runs.segments + segment_bytes runs.count ≡ length (flat_map (segment_spelled palette) (longest_runs (colours_in picture)))
unfolding longest_runs
segments_all picture runs y palette all counted =
    let whole = counted_all picture runs y all counted in
    let last : spelled_size plain_segment (with_run runs []) ≡ segment_bytes runs.count + 0 = segments_front runs.count runs.colour [] (begins_nothing runs.colour) in
    omega (arith, whole.segments, last) ∙ segments_alike palette (longest_runs (colours_in picture))

pub steps_all : (picture : Picture) (runs : Runs) (y : ℕ) → y ≡ picture.height → Counted (colours_in picture) runs (drop (y * picture.width) (colours_in picture))
    → runs.steps ≡ steps_from black (colours_in picture)
unfolding steps_from
steps_all picture runs y all counted = omega (arith, (counted_all picture runs y all counted).steps)
