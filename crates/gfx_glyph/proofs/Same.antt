-- What the test of a slot says.
use Rattle.std.proofs.Common.{◌≡◌, ℕ, ◌*◌, Bool, true, false, ◌&&◌, nat_eq, List, Some, None, refl, sym, ap, ◌∙◌}
use Rattle.std.specs.Bool.{Decides}
use Rattle.std.proofs.lemmas.Bool.Decides.{Decides-eqb}
use Rattle.std.proofs.lemmas.Slice.Eq.{slice_eq-Decides}
use Rattle.gfx_base.specs.declared.pixel.Rgb.{Rgb}
use Rattle.gfx_glyph.specs.declared.glyph.Glyph.{Glyph}
use Rattle.gfx_base.specs.Colour.{same_colour, same_pixels}
use Rattle.gfx_base.proofs.Palettes.{same_itself, same_is}
use Rattle.gfx_glyph.specs.Glyphs.{Slot, stands}

pub same_colour-Decides : (c d : Rgb) → Decides (same_colour c d) (c ≡ d)
same_colour-Decides c d = (same_is c d, λ e. ap (same_colour c) (sym e) ∙ same_itself c)

pub same_pixels-Decides : (xs ys : List Rgb) → Decides (same_pixels xs ys) (xs ≡ ys)
same_pixels-Decides xs ys = slice_eq-Decides same_colour-Decides xs ys (same_pixels xs ys) refl

and_true : (a b : Bool) → (a && b) ≡ true → (a ≡ true) × (b ≡ true)
and_true true b e = (refl, e)
and_true false b e = absurd cc

-- a slot that passes has the pixels
pub stands_pixels : (width height : ℕ) (pixels : List Rgb) (slot : Slot) → stands width height pixels slot ≡ true → (held : Glyph) × (slot ≡ Some held) × (held.pixels ≡ pixels)
stands_pixels width height pixels None e = absurd cc
stands_pixels width height pixels (Some held) e =
    let first = and_true (nat_eq held.width width) (nat_eq held.height height && same_pixels held.pixels pixels) e in
    let second = and_true (nat_eq held.height height) (same_pixels held.pixels pixels) first.1 in
    (held, refl, (same_pixels-Decides held.pixels pixels).0 second.1)

-- a glyph of this size has its area
pub size_area : (held : Glyph) (width height area : ℕ) → (nat_eq held.width width && nat_eq held.height height) ≡ true → area ≡ held.width * held.height → area ≡ width * height
size_area held width height area e f =
    let both = and_true (nat_eq held.width width) (nat_eq held.height height) e in
    let w : held.width ≡ width = (Decides-eqb held.width width).0 both.0 in
    let h : held.height ≡ height = (Decides-eqb held.height height).0 both.1 in
    rw (← w, ← h) f
