-- Pictures drawn where a test holds.
use Rattle.std.proofs.Common.{◌≡◌, ◌∙◌, ap, sym, refl, subst, IsTrue, Bool, true, false, ◌&&◌, ◌||◌, nat_eq, if◌then◌else◌, ℕ, ◌+◌, ◌*◌, ◌/◌, ◌<◌, ◌≤◌, List, eq-eqb, arith}
use Rattle.std.proofs.lemmas.Bool.Decides.{nat_tests}
use Rattle.gfx_base.specs.declared.geometry.Cell.{Cell}
use Rattle.gfx_base.specs.declared.geometry.Point.{Point}
use Rattle.gfx_base.specs.declared.geometry.Rect.{Rect}
use Rattle.gfx_base.specs.declared.pixel.Pixel.{Pixel}
use Rattle.gfx_base.specs.Cells.{cell}
use Rattle.gfx_base.specs.Geometry.{holds, lies_in}
use Rattle.gfx_surface.specs.Kept.{ChangesOnly}
use Rattle.gfx_surface.specs.Picture.{Picture, IsPicture, no_pixel, pixel_at, shade}
use Rattle.gfx_surface.proofs.PictureLemmas.{drawn_alike, pixel_at-drawn, redrawn_self}
use Rattle.gfx_rfx_video.specs.Inside.{IsPart}
use Rattle.gfx_rfx_video.specs.Showing.{drawn_where}

-- a test and colours
abbrev pub Test : Type 0
Test = ℕ → ℕ → Bool

abbrev pub Colours : Type 0
Colours = ℕ → ℕ → Pixel

-- two choices that agree
choices : (a b : Bool) (p q other : Pixel) → a ≡ b → (b ≡ true → p ≡ q) → (if a then p else other) ≡ (if b then q else other)
choices true true p q other same is = is refl
choices false false p q other same is = refl
choices true false p q other same is = cc
choices false true p q other same is = cc

-- tests and colours that agree
pub drawn-same : (picture : Picture) (a b : Test) (f g : Colours) → ((x y : ℕ) → x < picture.width → y < picture.height → a x y ≡ b x y)
    → ((x y : ℕ) → b x y ≡ true → f x y ≡ g x y) → drawn_where a f picture ≡ drawn_where b g picture
drawn-same picture a b f g same is =
    ap (λ (pixels : List Pixel). record picture { pixels = pixels })
    (drawn_alike picture.width picture.height _ _
    (λ x y column row. choices (a x y) (b x y) (shade picture.format (f x y)) (shade picture.format (g x y)) (pixel_at picture x y) (same x y column row) (λ hit. ap (shade picture.format) (is x y hit))))

-- nowhere
pub drawn-none : (picture : Picture) (a : Test) (f : Colours) → IsPicture picture → ((x y : ℕ) → x < picture.width → y < picture.height → a x y ≡ false) → picture ≡ drawn_where a f picture
drawn-none picture a f shape none =
    sym (redrawn_self picture _ shape (λ x y column row. ap (λ b. if b then shade picture.format (f x y) else pixel_at picture x y) (none x y column row)))

-- twice
pub drawn-twice : (picture : Picture) (a b : Test) (f : Colours) → drawn_where b f (drawn_where a f picture) ≡ drawn_where (λ x y. a x y || b x y) f picture
drawn-twice picture a b f =
    ap (λ (pixels : List Pixel). record picture { pixels = pixels })
    (drawn_alike picture.width picture.height _ _
    (λ x y column row.
    ap (λ p. if b x y then shade picture.format (f x y) else p)
    (pixel_at-drawn picture.width picture.height x y (λ x y. if a x y then shade picture.format (f x y) else pixel_at picture x y) no_pixel column row)
    ∙ merged (a x y) (b x y) (shade picture.format (f x y)) (pixel_at picture x y)))
  where
    merged : (a b : Bool) (p q : Pixel) → (if b then p else (if a then p else q)) ≡ (if a || b then p else q)
    merged true true p q = refl
    merged true false p q = refl
    merged false true p q = refl
    merged false false p q = refl

-- once and once more
pub drawn-then : (old now new : Picture) (a b c : Test) (f : Colours) → now ≡ drawn_where a f old → new ≡ drawn_where b f now
    → ((x y : ℕ) → (a x y || b x y) ≡ c x y) → new ≡ drawn_where c f old
drawn-then old now new a b c f first last same =
    last ∙ ap (drawn_where b f) first ∙ drawn-twice old a b f ∙ drawn-same old (λ x y. a x y || b x y) c f f (λ x y column row. same x y) (λ x y hit. refl)

-- ---- what stays

-- a part of a tile
pub part-stays : (old new : Picture) (a : Test) (f : Colours) (at : Point) (part : Rect) → new ≡ drawn_where a f old → IsPart old at part → IsPart new at part
part-stays old new a f at part is whole = subst (λ p. IsPart p at part) (sym is) (record {
  inside = whole.inside;
  behind = whole.behind;
  below = whole.below;
  narrow = whole.narrow;
  low = whole.low;
  wide = whole.wide;
  high = whole.high;
})

-- a rectangle
pub inside-stays : (old new : Picture) (a : Test) (f : Colours) (rect : Rect) → new ≡ drawn_where a f old → IsTrue (lies_in old.width old.height rect) → IsTrue (lies_in new.width new.height rect)
inside-stays old new a f rect is inside = subst (λ (p : Picture). IsTrue (lies_in p.width p.height rect)) (sym is) inside

-- ---- a cell alone

-- what is drawn in a cell changes no other
pub drawn-in-cell : (picture : Picture) (one : Cell) (a : Test) (f : Colours)
    → ((x y : ℕ) → (nat_eq (x / 64) one.x && nat_eq (y / 64) one.y) ≡ false → a x y ≡ false) → ChangesOnly one picture (drawn_where a f picture)
drawn-in-cell picture one a f none = record {
  pixels = λ x y. if a x y then shade picture.format (f x y) else pixel_at picture x y;
  picture = refl;
  outside = λ x y column row out. ap (λ b. if b then shade picture.format (f x y) else pixel_at picture x y) (none x y out);
}

column-in : (part : Rect) (x y : ℕ) → part.right ≤ part.left / 64 * 64 + 64 → holds part x y ≡ true → x / 64 ≡ part.left / 64
column-in part x y narrow hit = let from : part.left ≤ x = low part x y hit in let to : x < part.right = high part x y hit in omega (arith, from, to, narrow)
  where
    low : (part : Rect) (x y : ℕ) → holds part x y ≡ true → part.left ≤ x
    low part x y hit = grind (arith, nat_tests)

    high : (part : Rect) (x y : ℕ) → holds part x y ≡ true → x < part.right
    high part x y hit = grind (arith, nat_tests)

row-in : (part : Rect) (x y : ℕ) → part.bottom ≤ part.top / 64 * 64 + 64 → holds part x y ≡ true → y / 64 ≡ part.top / 64
row-in part x y low hit = let from : part.top ≤ y = above part x y hit in let to : y < part.bottom = below part x y hit in omega (arith, from, to, low)
  where
    above : (part : Rect) (x y : ℕ) → holds part x y ≡ true → part.top ≤ y
    above part x y hit = grind (arith, nat_tests)

    below : (part : Rect) (x y : ℕ) → holds part x y ≡ true → y < part.bottom
    below part x y hit = grind (arith, nat_tests)

-- a rectangle within the cell of its corner has no pixel of another
pub not-elsewhere : (part : Rect) (more : Bool) (x y : ℕ) → part.right ≤ part.left / 64 * 64 + 64 → part.bottom ≤ part.top / 64 * 64 + 64
    → (nat_eq (x / 64) (part.left / 64) && nat_eq (y / 64) (part.top / 64)) ≡ false → (holds part x y && more) ≡ false
not-elsewhere part more x y narrow low out = by (holds part x y) refl
  where
    both : (a b : Bool) → a ≡ true → b ≡ true → (a && b) ≡ false → ⊥
    both true true e f g = cc
    both true false e f g = cc
    both false b e f g = cc

    by : (b : Bool) → holds part x y ≡ b → (holds part x y && more) ≡ false
    by true hit =
        absurd (both (nat_eq (x / 64) (part.left / 64)) (nat_eq (y / 64) (part.top / 64)) (eq-eqb (x / 64) (part.left / 64) (column-in part x y narrow hit))
        (eq-eqb (y / 64) (part.top / 64) (row-in part x y low hit)) out)
    by false miss = ap (λ b. b && more) miss

-- what is drawn of such a rectangle changes its cell alone
pub part-changes : (picture new : Picture) (one : Cell) (part : Rect) (more : Test) (f : Colours) → one ≡ cell (part.left / 64) (part.top / 64)
    → part.right ≤ part.left / 64 * 64 + 64 → part.bottom ≤ part.top / 64 * 64 + 64 → new ≡ drawn_where (λ x y. holds part x y && more x y) f picture → ChangesOnly one picture new
part-changes picture new one part more f is narrow low drawn =
    subst (λ p. ChangesOnly one picture p) (sym drawn) (subst (λ c. ChangesOnly c picture (drawn_where (λ x y. holds part x y && more x y) f picture)) (sym is)
    (drawn-in-cell picture (cell (part.left / 64) (part.top / 64)) (λ x y. holds part x y && more x y) f (λ x y out. not-elsewhere part (more x y) x y narrow low out)))

-- so does all of it
pub whole-changes : (picture new : Picture) (one : Cell) (part : Rect) (f : Colours) → one ≡ cell (part.left / 64) (part.top / 64)
    → part.right ≤ part.left / 64 * 64 + 64 → part.bottom ≤ part.top / 64 * 64 + 64 → new ≡ drawn_where (holds part) f picture → ChangesOnly one picture new
whole-changes picture new one part f is narrow low drawn =
    part-changes picture new one part (λ x y. true) f is narrow low
    (drawn ∙ drawn-same picture (holds part) (λ x y. holds part x y && true) f f (λ x y column row. all (holds part x y)) (λ x y hit. refl))
  where
    all : (b : Bool) → b ≡ (b && true)
    all true = refl
    all false = refl
