-- Colours that are the same, and the longest runs of pixels.
use Rattle.std.proofs.Common.{◌≡◌, ℕ, ◌+◌, ◌<◌, ◌≤◌, Bool, true, false, List, [], ◌∷◌, ◌++◌, length, take, drop, replicate, get_or, zero, suc, refl, sym, ap, ◌∙◌, arith}
use Rattle.std.proofs.lemmas.List.{take_more, replicate_more, drop_more, drop_all, take-append-drop}
use Rattle.std.specs.Prelude.{if◌then◌else◌}
use Rattle.gfx_base.specs.declared.pixel.Rgb.{Rgb}
use Rattle.gfx_base.specs.Colour.{same_colour}
use Rattle.gfx_base.proofs.Palettes.{same_itself, same_is}
use Rattle.gfx_clear_runs.specs.Writing.{Run, run, joined, longest_runs}
use Rattle.gfx_clear_runs.specs.Inner.{begins}

-- one more pixel of a run
pub colour_more : (colour pixel : Rgb) (pixels : List Rgb) (i : ℕ) → i < length pixels → pixel ≡ get_or pixels i pixel → same_colour colour pixel ≡ true
    → take i pixels ≡ replicate i colour → take (i + 1) pixels ≡ replicate (i + 1) colour
colour_more colour pixel pixels i within e same so_far =
    take_more pixels i pixel within ∙ (ap (λ z. z ++ get_or pixels i pixel ∷ []) so_far
    ∙ (ap (λ z. replicate i colour ++ z ∷ []) (sym e ∙ sym (same_is colour pixel same)) ∙ replicate_more i colour))

-- a run ends before another colour, and at the end
pub begins_not : (colour other : Rgb) (pixels : List Rgb) (i : ℕ) → i < length pixels → same_colour colour (get_or pixels i other) ≡ false → begins colour (drop i pixels) ≡ false
unfolding begins
begins_not colour other pixels i within e = rw (drop_more pixels i other within) e

pub begins_none : (colour : Rgb) (pixels : List Rgb) (i : ℕ) → length pixels ≤ i → begins colour (drop i pixels) ≡ false
unfolding begins
begins_none colour pixels i past = rw (drop_all i pixels past) refl

joined_none : (colour : Rgb) → joined colour [] ≡ run colour 1 ∷ []
unfolding joined
joined_none colour = refl

joined_same : (colour : Rgb) (count : ℕ) (runs : List Run) → joined colour (run colour count ∷ runs) ≡ run colour (count + 1) ∷ runs
unfolding joined
joined_same colour count runs = rw (same_itself colour) refl

joined_other : (colour : Rgb) (next : Run) (runs : List Run) → same_colour colour next.colour ≡ false → joined colour (next ∷ runs) ≡ run colour 1 ∷ (next ∷ runs)
unfolding joined
joined_other colour next runs e = rw e refl

head_by : (colour : Rgb) (next : Run) (runs : List Run) (same : Bool)
    → (count : ℕ) × (others : List Run) × ((if same then run colour (next.count + 1) ∷ runs else run colour 1 ∷ (next ∷ runs)) ≡ run colour count ∷ others)
head_by colour next runs true = (next.count + 1, runs, refl)
head_by colour next runs false = (1, next ∷ runs, refl)

-- the first run is one of the first pixel
head_run : (colour : Rgb) (runs : List Run) → (count : ℕ) × (others : List Run) × (joined colour runs ≡ run colour count ∷ others)
unfolding joined
head_run colour [] = (1, [], refl)
head_run colour (next ∷ runs) = head_by colour next runs (same_colour colour next.colour)

-- a run before pixels of another colour
pub longest_front : (n : ℕ) (colour : Rgb) (rest : List Rgb) → begins colour rest ≡ false → longest_runs (replicate (suc n) colour ++ rest) ≡ run colour (suc n) ∷ longest_runs rest
unfolding longest_runs begins
longest_front zero colour [] e = joined_none colour
longest_front zero colour (pixel ∷ rest) e =
    let head = head_run pixel (longest_runs rest) in
    ap (joined colour) head.2 ∙ (joined_other colour (run pixel head.0) head.1 e ∙ ap (λ z. run colour 1 ∷ z) (sym head.2))
longest_front (suc n) colour rest e =
    ap (joined colour) (longest_front n colour rest e) ∙ (joined_same colour (suc n) (longest_runs rest) ∙ ap (λ z. run colour z ∷ longest_runs rest) (omega arith))

-- the run that a writer finds at the front
pub longest_split : (n : ℕ) (colour : Rgb) (pixels : List Rgb) → 0 < n → take n pixels ≡ replicate n colour → begins colour (drop n pixels) ≡ false
    → longest_runs pixels ≡ run colour n ∷ longest_runs (drop n pixels)
longest_split zero colour pixels some e f = absurd (omega arith)
longest_split (suc n) colour pixels some e f =
    ap longest_runs (sym (take-append-drop (suc n) pixels) ∙ ap (λ z. z ++ drop (suc n) pixels) e) ∙ longest_front n colour (drop (suc n) pixels) f
