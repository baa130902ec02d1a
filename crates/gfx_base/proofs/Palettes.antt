-- Colours that are the same, and palettes that grow by the colours of pixels.
use Rattle.std.proofs.Common.{◌≡◌, ◌+◌, ◌≤◌, Bool, true, false, List, [], ◌∷◌, ◌++◌, length, refl, ap, ◌∙◌, arith, length-append, eq-eqb, eqb-true}
use Rattle.std.specs.Prelude.{◌||◌, ◌&&◌, nat_eq}
use Rattle.gfx_base.specs.declared.pixel.Rgb.{Rgb}
use Rattle.gfx_base.specs.Colour.{same_colour, has_colour, with_colour, with_colours}

pub same_itself : (colour : Rgb) → same_colour colour colour ≡ true
same_itself colour = rw (eq-eqb colour.b colour.b refl, eq-eqb colour.g colour.g refl, eq-eqb colour.r colour.r refl) refl

and_true : (a b : Bool) → (a && b) ≡ true → (a ≡ true) × (b ≡ true)
and_true true b e = (refl, e)
and_true false b e = absurd cc

-- colours that are the same are one
pub same_is : (c d : Rgb) → same_colour c d ≡ true → c ≡ d
same_is c d e =
    let first = and_true (nat_eq c.b d.b) (nat_eq c.g d.g && nat_eq c.r d.r) e in
    let second = and_true (nat_eq c.g d.g) (nat_eq c.r d.r) first.1 in
    let b : c.b ≡ d.b = eqb-true c.b d.b first.0 in
    let g : c.g ≡ d.g = eqb-true c.g d.g second.0 in
    let r : c.r ≡ d.r = eqb-true c.r d.r second.1 in
    rw (b, g, r) refl

-- a new colour is one more
pub length_with : (palette : List Rgb) (colour : Rgb) → has_colour palette colour ≡ false → length (with_colour palette colour) ≡ length palette + 1
unfolding with_colour
length_with palette colour e = rw e (length-append palette (colour ∷ []))

pub with_held : (palette : List Rgb) (colour : Rgb) → has_colour palette colour ≡ true → with_colour palette colour ≡ palette
unfolding with_colour
with_held palette colour e = rw e refl

pub with_new : (palette : List Rgb) (colour : Rgb) → has_colour palette colour ≡ false → with_colour palette colour ≡ palette ++ colour ∷ []
unfolding with_colour
with_new palette colour e = rw e refl

or_true : (b : Bool) → (b || true) ≡ true
or_true true = refl
or_true false = refl

has_last : (palette : List Rgb) (colour : Rgb) → has_colour (palette ++ colour ∷ []) colour ≡ true
has_last [] colour = rw (same_itself colour) refl
has_last (held ∷ palette) colour = rw (has_last palette colour) (or_true (same_colour colour held))

has_by : (palette : List Rgb) (colour : Rgb) (held : Bool) → has_colour palette colour ≡ held → has_colour (with_colour palette colour) colour ≡ true
has_by palette colour true e = ap (λ z. has_colour z colour) (with_held palette colour e) ∙ e
has_by palette colour false e = ap (λ z. has_colour z colour) (with_new palette colour e) ∙ has_last palette colour

longer_by : (palette : List Rgb) (colour : Rgb) (held : Bool) → has_colour palette colour ≡ held → length palette ≤ length (with_colour palette colour)
longer_by palette colour true e = omega (arith, ap length (with_held palette colour e))
longer_by palette colour false e = omega (arith, length_with palette colour e)

-- a colour that was put in is there
pub has_with : (palette : List Rgb) (colour : Rgb) → has_colour (with_colour palette colour) colour ≡ true
has_with palette colour = has_by palette colour (has_colour palette colour) refl

pub longer_with : (palette : List Rgb) (colour : Rgb) → length palette ≤ length (with_colour palette colour)
longer_with palette colour = longer_by palette colour (has_colour palette colour) refl

pub longer_all : (palette pixels : List Rgb) → length palette ≤ length (with_colours palette pixels)
unfolding with_colours
longer_all palette [] = omega arith
longer_all palette (pixel ∷ pixels) = omega (arith, longer_with palette pixel, longer_all (with_colour palette pixel) pixels)
