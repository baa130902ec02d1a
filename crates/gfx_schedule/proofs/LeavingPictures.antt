-- What is drawn in rectangles hides what stood there.
use Rattle.std.proofs.Common.{◌≡◌, ◌∙◌, ◌+◌, ◌*◌, ◌/◌, ◌%◌, ◌<◌, ◌≤◌, ◌||◌, ℕ, Bool, true, false, cond, List, [], ◌∷◌, length, get_or, inl, inr, refl, sym, ap, subst, arith}
use Rattle.std.specs.List.{AllByRecursion, list_all, list_any}
use Rattle.std.proofs.lemmas.Bool.{cases_Bool}
use Rattle.std.proofs.lemmas.Bool.Decides.{nat_tests}
use Rattle.std.proofs.lemmas.List.{ext_get_or}
use Rattle.std.proofs.lemmas.Nat.{div_below}
use Rattle.gfx_base.specs.Geometry.{holds}
use Rattle.gfx_base.specs.declared.format.Format.{Format}
use Rattle.gfx_base.specs.declared.geometry.Rect.{Rect}
use Rattle.gfx_base.specs.declared.pixel.Pixel.{Pixel}
use Rattle.gfx_surface.specs.Picture.{Picture, shade, in_rect, redrawn, filled, overlaid, pixel_at, no_pixel}
use Rattle.gfx_surface.proofs.PictureLemmas.{length-drawn, pixel_at-drawn, filled-width, filled-height, filled-format}
use Rattle.gfx_surface.proofs.Places.{some_columns}
use Rattle.gfx_surface_map.specs.Surfaces.{painted}
use Rattle.gfx_surface_map.proofs.PaintedLemmas.{painted-width, painted-height, painted-format}
use Rattle.gfx_window.specs.Superseded.{contains}
use Rattle.gfx_window.proofs.HullLaws.{both}

pub record SameSides (a b : Picture) : Type 0 where
  pub width : a.width ≡ b.width
  pub height : a.height ≡ b.height
  pub format : a.format ≡ b.format

-- no rectangle of these holds the pixel
abbrev pub AreBeside : List Rect → ℕ → ℕ → Type 0
AreBeside rects x y = AllByRecursion (λ rect. holds rect x y ≡ false) rects

-- there is a pixel for each place
abbrev pub IsFull : Picture → Type 0
IsFull picture = length picture.pixels ≡ picture.width * picture.height

-- two pictures are alike but in these rectangles
pub record AreAlike (rects : List Rect) (a b : Picture) : Type 0 where
  pub sides : SameSides a b
  pub pixel : (x y : ℕ) → x < a.width → y < a.height → AreBeside rects x y → pixel_at a x y ≡ pixel_at b x y

-- what draws in these rectangles, and reads nothing of the picture there
pub record Draws (rects : List Rect) (draw : Picture → Picture) : Type 0 where
  pub sides : (a : Picture) → SameSides a (draw a)
  pub beside : (a : Picture) (x y : ℕ) → x < a.width → y < a.height → AreBeside rects x y → pixel_at a x y ≡ pixel_at (draw a) x y
  pub within : (a b : Picture) (x y : ℕ) → SameSides a b → x < a.width → y < a.height
      → (AreBeside rects x y → pixel_at a x y ≡ pixel_at b x y) → pixel_at (draw a) x y ≡ pixel_at (draw b) x y
  pub full : (a : Picture) → 1 ≤ length rects → IsFull (draw a)

sides_both : (a b c : Picture) → SameSides a b → SameSides b c → SameSides a c
sides_both a b c first second = record { width = first.width ∙ second.width; height = first.height ∙ second.height; format = first.format ∙ second.format }

pub sides_back : (a b : Picture) → SameSides a b → SameSides b a
sides_back a b same = record { width = sym same.width; height = sym same.height; format = sym same.format }

sides_drawn : (rects : List Rect) (draw : Picture → Picture) (a b : Picture) → Draws rects draw → SameSides a b → SameSides (draw a) (draw b)
sides_drawn rects draw a b draws same = sides_both (draw a) a (draw b) (sides_back a (draw a) (draws.sides a)) (sides_both a b (draw b) same (draws.sides b))

-- drawing by a test ---------------------------------------------------------------------------------

abbrev drawn_by : (ℕ → ℕ → Bool) → (Format → ℕ → ℕ → Pixel) → Picture → Picture
drawn_by test shown a = redrawn a (λ p q. cond (test p q) (shown a.format p q) (pixel_at a p q))

drawn-pixel : (test : ℕ → ℕ → Bool) (shown : Format → ℕ → ℕ → Pixel) (a : Picture) (x y : ℕ) → x < a.width → y < a.height
    → pixel_at (drawn_by test shown a) x y ≡ cond (test x y) (shown a.format x y) (pixel_at a x y)
drawn-pixel test shown a x y column row =
    pixel_at-drawn a.width a.height x y (λ p q. cond (test p q) (shown a.format p q) (pixel_at a p q)) no_pixel column row

drawn-beside : (test : ℕ → ℕ → Bool) (shown : Format → ℕ → ℕ → Pixel) (a : Picture) (x y : ℕ) → x < a.width → y < a.height → test x y ≡ false
    → pixel_at a x y ≡ pixel_at (drawn_by test shown a) x y
drawn-beside test shown a x y column row off =
    sym (drawn-pixel test shown a x y column row ∙ ap (λ t. cond t (shown a.format x y) (pixel_at a x y)) off)

chosen : (t : Bool) (p q r s : Pixel) → p ≡ q → (t ≡ false → r ≡ s) → cond t p r ≡ cond t q s
chosen true p q r s same other = same
chosen false p q r s same other = other refl

drawn-within : (test : ℕ → ℕ → Bool) (shown : Format → ℕ → ℕ → Pixel) (a b : Picture) (x y : ℕ) → SameSides a b → x < a.width → y < a.height
    → (test x y ≡ false → pixel_at a x y ≡ pixel_at b x y) → pixel_at (drawn_by test shown a) x y ≡ pixel_at (drawn_by test shown b) x y
drawn-within test shown a b x y same column row other =
    drawn-pixel test shown a x y column row
    ∙ chosen (test x y) (shown a.format x y) (shown b.format x y) (pixel_at a x y) (pixel_at b x y) (ap (λ f. shown f x y) same.format) other
    ∙ sym (drawn-pixel test shown b x y (subst (λ n. x < n) same.width column) (subst (λ n. y < n) same.height row))

-- a picture laid over another -------------------------------------------------------------------------

pub overlaid-draws : (rect : Rect) (pixels : List Pixel) → Draws (rect ∷ []) (λ surface. overlaid surface rect pixels)
unfolding overlaid
overlaid-draws rect pixels = record {
  sides = λ a. record { width = refl; height = refl; format = refl };
  beside = λ a x y column row off. drawn-beside (holds rect) shown a x y column row off.0;
  within = λ a b x y same column row other. drawn-within (holds rect) shown a b x y same column row (λ off. other (off, tt));
  full = λ a some. length-drawn a.width a.height (λ p q. cond (holds rect p q) (shown a.format p q) (pixel_at a p q));
}
  where
    shown : Format → ℕ → ℕ → Pixel
    shown format x y = shade format (in_rect rect pixels x y)

-- rectangles of one colour ----------------------------------------------------------------------------

filled-sides : (a : Picture) (rect : Rect) (colour : Pixel) → SameSides a (filled a rect colour)
filled-sides a rect colour = record { width = sym (filled-width a rect colour); height = sym (filled-height a rect colour); format = sym (filled-format a rect colour) }

filled-beside : (a : Picture) (rect : Rect) (colour : Pixel) (x y : ℕ) → x < a.width → y < a.height → holds rect x y ≡ false → pixel_at a x y ≡ pixel_at (filled a rect colour) x y
unfolding filled
filled-beside a rect colour x y column row off = drawn-beside (holds rect) (λ format p q. shade format colour) a x y column row off

filled-within : (a b : Picture) (rect : Rect) (colour : Pixel) (x y : ℕ) → SameSides a b → x < a.width → y < a.height
    → (holds rect x y ≡ false → pixel_at a x y ≡ pixel_at b x y) → pixel_at (filled a rect colour) x y ≡ pixel_at (filled b rect colour) x y
unfolding filled
filled-within a b rect colour x y same column row other = drawn-within (holds rect) (λ format p q. shade format colour) a b x y same column row other

filled-full : (a : Picture) (rect : Rect) (colour : Pixel) → IsFull (filled a rect colour)
unfolding filled
filled-full a rect colour = length-drawn a.width a.height (λ x y. cond (holds rect x y) (shade a.format colour) (pixel_at a x y))

painted-beside : (a : Picture) (rects : List Rect) (colour : Pixel) (x y : ℕ) → x < a.width → y < a.height → AreBeside rects x y → pixel_at a x y ≡ pixel_at (painted a rects colour) x y
painted-beside a [] colour x y column row off = refl
painted-beside a (rect ∷ rects) colour x y column row off =
    let same = filled-sides a rect colour in
    filled-beside a rect colour x y column row off.0
    ∙ painted-beside (filled a rect colour) rects colour x y (subst (λ n. x < n) same.width column) (subst (λ n. y < n) same.height row) off.1

filled-both : (a b : Picture) (rect : Rect) (colour : Pixel) → SameSides a b → SameSides (filled a rect colour) (filled b rect colour)
filled-both a b rect colour same =
    sides_both (filled a rect colour) a (filled b rect colour) (sides_back a (filled a rect colour) (filled-sides a rect colour))
    (sides_both a b (filled b rect colour) same (filled-sides b rect colour))

painted-within : (a b : Picture) (rects : List Rect) (colour : Pixel) (x y : ℕ) → SameSides a b → x < a.width → y < a.height
    → (AreBeside rects x y → pixel_at a x y ≡ pixel_at b x y) → pixel_at (painted a rects colour) x y ≡ pixel_at (painted b rects colour) x y
painted-within a b [] colour x y same column row other = other tt
painted-within a b (rect ∷ rects) colour x y same column row other =
    let sides = filled-sides a rect colour in
    painted-within (filled a rect colour) (filled b rect colour) rects colour x y (filled-both a b rect colour same)
    (subst (λ n. x < n) sides.width column) (subst (λ n. y < n) sides.height row)
    (λ off. filled-within a b rect colour x y same column row (λ first. other (first, off)))

painted-full : (a : Picture) (rects : List Rect) (colour : Pixel) → IsFull a → IsFull (painted a rects colour)
painted-full a [] colour full = full
painted-full a (rect ∷ rects) colour full = painted-full (filled a rect colour) rects colour (filled-full a rect colour)

painted-some : (a : Picture) (rects : List Rect) (colour : Pixel) → 1 ≤ length rects → IsFull (painted a rects colour)
painted-some a [] colour some = absurd (omega arith)
painted-some a (rect ∷ rects) colour some = painted-full (filled a rect colour) rects colour (filled-full a rect colour)

pub painted-draws : (rects : List Rect) (colour : Pixel) → Draws rects (λ picture. painted picture rects colour)
painted-draws rects colour = record {
  sides = λ a. record { width = sym (painted-width a rects colour); height = sym (painted-height a rects colour); format = sym (painted-format a rects colour) };
  beside = λ a x y column row off. painted-beside a rects colour x y column row off;
  within = λ a b x y same column row other. painted-within a b rects colour x y same column row other;
  full = λ a some. painted-some a rects colour some;
}

-- what is drawn is alike, and equal where it covers ---------------------------------------------------

pub drawn-self : (rects : List Rect) (draw : Picture → Picture) (a : Picture) → Draws rects draw → AreAlike rects a (draw a)
drawn-self rects draw a draws = record { sides = draws.sides a; pixel = λ x y column row off. draws.beside a x y column row off }

-- a place is its row's start and its column, which are among those there
same_place : (k width height : ℕ) → k < width * height → k ≡ k / width * width + k % width
same_place k width height below = let some : 0 < width = some_columns k width height below in omega arith

row_below : (k width height : ℕ) → k < width * height → k / width < height
row_below k width height below =
    let some : 0 < width = some_columns k width height below in div_below k width height some (omega arith)

column_below : (k width height : ℕ) → k < width * height → k % width < width
column_below k width height below = let some : 0 < width = some_columns k width height below in omega arith

-- pictures of the same sides with the same pixels
same_pixels : (a b : Picture) → SameSides a b → IsFull a → IsFull b
    → ((x y : ℕ) → x < a.width → y < a.height → pixel_at a x y ≡ pixel_at b x y) → a.pixels ≡ b.pixels
same_pixels a b same full_a full_b each =
    ext_get_or no_pixel a.pixels b.pixels (full_a ∙ (λ i. same.width i * same.height i) ∙ sym full_b)
    (λ k under.
    let below : k < a.width * a.height = subst (λ n. k < n) full_a under in
    let place : k ≡ k / a.width * a.width + k % a.width = same_place k a.width a.height below in
    ap (λ p. get_or a.pixels p no_pixel) place
    ∙ each (k % a.width) (k / a.width) (column_below k a.width a.height below) (row_below k a.width a.height below)
    ∙ ap (λ w. get_or b.pixels (k / a.width * w + k % a.width) no_pixel) (sym same.width)
    ∙ sym (ap (λ p. get_or b.pixels p no_pixel) place))

same_picture : (a b : Picture) → SameSides a b → a.pixels ≡ b.pixels → a ≡ b
same_picture a b same pixels = λ i. record { width = same.width i; height = same.height i; format = same.format i; pixels = pixels i }

pub drawn-alike : (rects later : List Rect) (draw : Picture → Picture) (a b : Picture) → Draws later draw → AreAlike rects a b → AreAlike rects (draw a) (draw b)
drawn-alike rects later draw a b draws alike = record {
  sides = sides_drawn later draw a b draws alike.sides;
  pixel = λ x y column row off.
      let column_there : x < a.width = subst (λ n. x < n) (sym (draws.sides a).width) column in
      let row_there : y < a.height = subst (λ n. y < n) (sym (draws.sides a).height) row in
      draws.within a b x y alike.sides column_there row_there (λ _. alike.pixel x y column_there row_there off);
}

pub drawn-same : (rects later : List Rect) (draw : Picture → Picture) (a b : Picture) → Draws later draw → 1 ≤ length later
    → ((x y : ℕ) → AreBeside later x y → AreBeside rects x y) → AreAlike rects a b → draw a ≡ draw b
drawn-same rects later draw a b draws some covers alike =
    let sides : SameSides (draw a) (draw b) = sides_drawn later draw a b draws alike.sides in
    same_picture (draw a) (draw b) sides
    (same_pixels (draw a) (draw b) sides (draws.full a some) (draws.full b some)
    (λ x y column row.
    let column_there : x < a.width = subst (λ n. x < n) (sym (draws.sides a).width) column in
    let row_there : y < a.height = subst (λ n. y < n) (sym (draws.sides a).height) row in
    draws.within a b x y alike.sides column_there row_there (λ off. alike.pixel x y column_there row_there (covers x y off))))

-- what one rectangle contains is beside a pixel that it doesn't hold -----------------------------------

beside_inner : (outer inner : Rect) (x y : ℕ) → contains outer inner ≡ true → holds outer x y ≡ false → holds inner x y ≡ false
beside_inner outer inner x y inside off = grind (arith, nat_tests)

beside_all : (outer : Rect) (rects : List Rect) (x y : ℕ) → list_all (contains outer) rects ≡ true → holds outer x y ≡ false → AreBeside rects x y
beside_all outer [] x y inside off = tt
beside_all outer (rect ∷ rects) x y inside off =
    let h = both (contains outer rect) (list_all (contains outer) rects) inside in
    (beside_inner outer rect x y h.0 off, beside_all outer rects x y h.1 off)

pub either_rest : (a b : Bool) → (a || b) ≡ true → a ≡ false → b ≡ true
either_rest true b e off = absurd cc
either_rest false b e off = e

pub beside-covered : (rects later : List Rect) (x y : ℕ) → list_any (λ outer. list_all (contains outer) rects) later ≡ true → AreBeside later x y → AreBeside rects x y
beside-covered rects [] x y covered off = absurd cc
beside-covered rects (outer ∷ later) x y covered off =
    elim (cases_Bool (list_all (contains outer) rects)) [
      | inl here ↦ beside_all outer rects x y here off.0
      | inr not_here ↦ beside-covered rects later x y (either_rest (list_all (contains outer) rects) _ covered not_here) off.1
    ]

pub some-covers : (rects later : List Rect) → list_any (λ outer. list_all (contains outer) rects) later ≡ true → 1 ≤ length later
some-covers rects [] covered = absurd cc
some-covers rects (outer ∷ later) covered = omega arith
