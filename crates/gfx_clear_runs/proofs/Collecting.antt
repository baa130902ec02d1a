-- A palette grows by the colours of pixels.
use Rattle.std.proofs.Common.{◌≡◌, ℕ, ◌<◌, ◌≤◌, List, [], ◌∷◌, ◌++◌, length, take, drop, replicate, get_or, zero, suc, refl, sym, ap, ◌∙◌, arith, Some, None}
use Rattle.std.proofs.lemmas.List.{take-append-drop}
use Rattle.std.proofs.lemmas.Bool.{lt-ltb, le-ltb, lt-leb, le-leb}
use Rattle.gfx_clear_runs.specs.declared.palette.TheConstants.{PALETTE_MOST}
use Rattle.gfx_base.specs.declared.pixel.Rgb.{Rgb}
use Rattle.gfx_base.specs.Colour.{with_colour, with_colours}
use Rattle.gfx_base.proofs.Palettes.{with_held, has_with, longer_all}
use Rattle.gfx_clear_runs.specs.Writing.{rlex_by, segments_written}

-- copies of a colour put it in once
with_copies : (n : ℕ) (palette : List Rgb) (colour : Rgb) (rest : List Rgb) → with_colours (with_colour palette colour) (replicate n colour ++ rest) ≡ with_colours (with_colour palette colour) rest
unfolding with_colours
with_copies zero palette colour rest = refl
with_copies (suc n) palette colour rest =
    ap (λ z. with_colours z (replicate n colour ++ rest)) (with_held (with_colour palette colour) colour (has_with palette colour)) ∙ with_copies n palette colour rest

with_run : (n : ℕ) (palette : List Rgb) (colour : Rgb) (rest : List Rgb) → with_colours palette (replicate (suc n) colour ++ rest) ≡ with_colours (with_colour palette colour) rest
unfolding with_colours
with_run n palette colour rest = with_copies n palette colour rest

-- the run at the front puts its colour in
pub with_front : (n : ℕ) (palette : List Rgb) (colour : Rgb) (pixels : List Rgb) → 0 < n → take n pixels ≡ replicate n colour
    → with_colours palette pixels ≡ with_colours (with_colour palette colour) (drop n pixels)
with_front zero palette colour pixels some e = absurd (omega arith)
with_front (suc n) palette colour pixels some e =
    ap (with_colours palette) (sym (take-append-drop (suc n) pixels) ∙ ap (λ z. z ++ drop (suc n) pixels) e) ∙ with_run n palette colour (drop (suc n) pixels)

-- what is too much for one colour is too much for all
pub full_front : (most : ℕ) (palette : List Rgb) (other : Rgb) (pixels : List Rgb) → 0 < length pixels → most < length (with_colour palette (get_or pixels 0 other))
    → most < length (with_colours palette pixels)
unfolding with_colours
full_front most palette other [] some e = absurd (omega arith)
full_front most palette other (pixel ∷ pixels) some e = omega (arith, longer_all (with_colour palette pixel) pixels)

pub with_all : (palette pixels : List Rgb) → length pixels ≡ 0 → with_colours palette pixels ≡ palette
unfolding with_colours
with_all palette [] e = refl
with_all palette (pixel ∷ pixels) e = absurd (omega arith)

-- the palette and the pixels after a run
pub with_next : (n : ℕ) (palette : List Rgb) (colour : Rgb) (pixels new after : List Rgb) → 0 < n → take n pixels ≡ replicate n colour
    → new ≡ with_colour palette colour → after ≡ drop n pixels → with_colours new after ≡ with_colours palette pixels
with_next n palette colour pixels new after some e f g = rw (f, g) (sym (with_front n palette colour pixels some e))

-- no palette, and one that is too large
pub rlex_none : (palette pixels : List Rgb) → length palette ≡ 0 → rlex_by palette pixels ≡ None
unfolding rlex_by
rlex_none palette pixels e = rw (le-ltb 0 (length palette) (omega arith)) refl

pub rlex_much : (palette pixels : List Rgb) → PALETTE_MOST < length palette → rlex_by palette pixels ≡ None
unfolding rlex_by
rlex_much palette pixels much = rw (lt-ltb 0 (length palette) (omega arith), lt-leb (length palette) PALETTE_MOST much) refl

pub rlex_some : (palette pixels : List Rgb) → 0 < length palette → length palette ≤ PALETTE_MOST → rlex_by palette pixels ≡ Some (segments_written palette pixels)
unfolding rlex_by
rlex_some palette pixels some few = rw (lt-ltb 0 (length palette) some, le-leb (length palette) PALETTE_MOST few) refl
