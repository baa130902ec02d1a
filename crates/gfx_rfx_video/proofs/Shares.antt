-- What rectangles share, and how they are parted.
use Rattle.std.proofs.Common.{◌≡◌, ◌∙◌, ap, sym, refl, Bool, true, false, ◌&&◌, ◌||◌, nat_le, nat_lt, min, max, ℕ, ◌+◌, ◌-◌, ◌<◌, ◌≤◌, ◌⊎◌, inl, inr, arith}
use Rattle.std.proofs.lemmas.Bool.Decides.{nat_tests}
use Rattle.std.specs.Cmp.{both_ways}
use Rattle.gfx_base.specs.declared.geometry.Point.{Point}
use Rattle.gfx_base.specs.declared.geometry.Rect.{Rect}
use Rattle.gfx_base.specs.Geometry.{holds, moved, width_of, height_of}
use Rattle.gfx_prog_block.specs.declared.area.Area.{Area}
use Rattle.gfx_rfx_video.specs.Inside.{corner_of, has_all, overlap, placed}
use Rattle.gfx_rfx_video.specs.Showing.{has_pixel}

-- ---- tests of both sides, sorted

dropped : (b : Bool) → (b && false) ≡ false
dropped true = refl
dropped false = refl

sorted : (a b c d e f g h : Bool) → (((a && b) && (e && f)) && ((c && d) && (g && h))) ≡ ((a && b && c && d) && (e && f && g && h))
sorted false b c d e f g h = refl
sorted true false c d e f g h = refl
sorted true true false d e f g h = dropped (e && f)
sorted true true true false e f g h = dropped (e && f)
sorted true true true true false f g h = refl
sorted true true true true true false g h = refl
sorted true true true true true true g h = refl

paired : (a b c d : Bool) → ((a && b) && (c && d)) ≡ (a && b && c && d)
paired false b c d = refl
paired true false c d = refl
paired true true c d = refl

-- ---- what a part shares with an area

-- where it is taken from on a canvas that stands at a point
abbrev pub source : Point → Rect → Rect
source at both = record { left = both.left - at.x; top = both.top - at.y; right = both.right - at.x; bottom = both.bottom - at.y }

side-there : (left right from to at x : ℕ) → at ≤ left → max left from < min right to
    → (nat_le (max left from) x && nat_lt x (max left from + ((min right to - at) - (max left from - at)))) ≡ true
    → ((nat_le left x && nat_lt x right) && (nat_le from x && nat_lt x to)) ≡ true
side-there left right from to at x begins some e = grind (arith, nat_tests)

side-back : (left right from to at x : ℕ) → at ≤ left → max left from < min right to
    → ((nat_le left x && nat_lt x right) && (nat_le from x && nat_lt x to)) ≡ true
    → (nat_le (max left from) x && nat_lt x (max left from + ((min right to - at) - (max left from - at)))) ≡ true
side-back left right from to at x begins some e = grind (arith, nat_tests)

side : (left right from to at x : ℕ) → at ≤ left → max left from < min right to
    → (nat_le (max left from) x && nat_lt x (max left from + ((min right to - at) - (max left from - at))))
    ≡ ((nat_le left x && nat_lt x right) && (nat_le from x && nat_lt x to))
side left right from to at x begins some = both_ways _ _ (side-there left right from to at x begins some) (side-back left right from to at x begins some)

no-side : (left right from to x : ℕ) → min right to ≤ max left from → ((nat_le left x && nat_lt x right) && (nat_le from x && nat_lt x to)) ≡ false
no-side left right from to x none = grind (arith, nat_tests)

-- the pixels that are taken are those that both have
pub same-place : (part area : Rect) (at : Point) (x y : ℕ) → at.x ≤ part.left → at.y ≤ part.top
    → (overlap part area).left < (overlap part area).right → (overlap part area).top < (overlap part area).bottom
    → holds (moved (source at (overlap part area)) (corner_of (overlap part area))) x y ≡ (holds part x y && holds area x y)
same-place part area at x y behind below some rows =
    let both : Rect = overlap part area in
    sym (paired (nat_le both.left x) (nat_lt x (both.left + width_of (source at both))) (nat_le both.top y) (nat_lt y (both.top + height_of (source at both))))
    ∙ (λ i. side part.left part.right area.left area.right at.x x behind some i && side part.top part.bottom area.top area.bottom at.y y below rows i)
    ∙ sorted (nat_le part.left x) (nat_lt x part.right) (nat_le part.top y) (nat_lt y part.bottom) (nat_le area.left x) (nat_lt x area.right) (nat_le area.top y) (nat_lt y area.bottom)

-- where they share nothing no pixel has both
pub no-place : (part area : Rect) (x y : ℕ) → ((overlap part area).right ≤ (overlap part area).left) ⊎ ((overlap part area).bottom ≤ (overlap part area).top)
    → (holds part x y && holds area x y) ≡ false
no-place part area x y (inl none) =
    sym (sorted (nat_le part.left x) (nat_lt x part.right) (nat_le part.top y) (nat_lt y part.bottom) (nat_le area.left x) (nat_lt x area.right) (nat_le area.top y) (nat_lt y area.bottom))
    ∙ ap (λ b. b && ((nat_le part.top y && nat_lt y part.bottom) && (nat_le area.top y && nat_lt y area.bottom))) (no-side part.left part.right area.left area.right x none)
no-place part area x y (inr none) =
    sym (sorted (nat_le part.left x) (nat_lt x part.right) (nat_le part.top y) (nat_lt y part.bottom) (nat_le area.left x) (nat_lt x area.right) (nat_le area.top y) (nat_lt y area.bottom))
    ∙ ap (λ b. ((nat_le part.left x && nat_lt x part.right) && (nat_le area.left x && nat_lt x area.right)) && b) (no-side part.top part.bottom area.top area.bottom y none)
    ∙ dropped ((nat_le part.left x && nat_lt x part.right) && (nat_le area.left x && nat_lt x area.right))

-- the place of the canvas that a pixel is taken from
pub from-canvas : (left from at x : ℕ) → at ≤ left → left ≤ x → from ≤ x → x - max left from + (max left from - at) ≡ x - at
from-canvas left from at x begins low high = omega arith

-- sides of what both have
pub part-left : (part area : Rect) (x y : ℕ) → (holds part x y && holds area x y) ≡ true → part.left ≤ x
part-left part area x y hit = grind (arith, nat_tests)

pub area-left : (part area : Rect) (x y : ℕ) → (holds part x y && holds area x y) ≡ true → area.left ≤ x
area-left part area x y hit = grind (arith, nat_tests)

pub part-top : (part area : Rect) (x y : ℕ) → (holds part x y && holds area x y) ≡ true → part.top ≤ y
part-top part area x y hit = grind (arith, nat_tests)

pub area-top : (part area : Rect) (x y : ℕ) → (holds part x y && holds area x y) ≡ true → area.top ≤ y
area-top part area x y hit = grind (arith, nat_tests)

-- ---- a rectangle in two parts

cut-there : (left middle right x : ℕ) → left ≤ middle → middle ≤ right → ((nat_le left x && nat_lt x middle) || (nat_le middle x && nat_lt x right)) ≡ true → (nat_le left x && nat_lt x right) ≡ true
cut-there left middle right x first last e = grind (arith, nat_tests)

cut-back : (left middle right x : ℕ) → left ≤ middle → middle ≤ right → (nat_le left x && nat_lt x right) ≡ true → ((nat_le left x && nat_lt x middle) || (nat_le middle x && nat_lt x right)) ≡ true
cut-back left middle right x first last e = grind (arith, nat_tests)

cut : (left middle right x : ℕ) → left ≤ middle → middle ≤ right → ((nat_le left x && nat_lt x middle) || (nat_le middle x && nat_lt x right)) ≡ (nat_le left x && nat_lt x right)
cut left middle right x first last = both_ways _ _ (cut-there left middle right x first last) (cut-back left middle right x first last)

or-and : (u v m : Bool) → ((u && m) || (v && m)) ≡ ((u || v) && m)
or-and true true true = refl
or-and true true false = refl
or-and true false true = refl
or-and true false false = refl
or-and false true true = refl
or-and false true false = refl
or-and false false true = refl
or-and false false false = refl

or-both : (p q s t : Bool) → ((p && s && t) || (q && s && t)) ≡ ((p || q) && (s && t))
or-both true true true true = refl
or-both true true true false = refl
or-both true true false true = refl
or-both true true false false = refl
or-both true false true true = refl
or-both true false true false = refl
or-both true false false true = refl
or-both true false false false = refl
or-both false true true true = refl
or-both false true true false = refl
or-both false true false true = refl
or-both false true false false = refl
or-both false false true true = refl
or-both false false true false = refl
or-both false false false true = refl
or-both false false false false = refl

-- two parts side by side
pub columns-apart : (part : Rect) (middle x y : ℕ) (more : Bool) → part.left ≤ middle → middle ≤ part.right
    → ((holds (record part { right = middle }) x y && more) || (holds (record part { left = middle }) x y && more)) ≡ (holds part x y && more)
columns-apart part middle x y more first last =
    or-and (holds (record part { right = middle }) x y) (holds (record part { left = middle }) x y) more
    ∙ ap (λ b. b && more) (or-both (nat_le part.left x && nat_lt x middle) (nat_le middle x && nat_lt x part.right) (nat_le part.top y) (nat_lt y part.bottom))
    ∙ ap (λ b. (b && (nat_le part.top y && nat_lt y part.bottom)) && more) (cut part.left middle part.right x first last)
    ∙ ap (λ b. b && more) (paired (nat_le part.left x) (nat_lt x part.right) (nat_le part.top y) (nat_lt y part.bottom))

or-low : (p a b c d : Bool) → ((p && a && b) || (p && c && d)) ≡ (p && ((a && b) || (c && d)))
or-low false a b c d = refl
or-low true a b c d = refl

-- two parts one below the other
pub rows-apart : (part : Rect) (middle x y : ℕ) (more : Bool) → part.top ≤ middle → middle ≤ part.bottom
    → ((holds (record part { bottom = middle }) x y && more) || (holds (record part { top = middle }) x y && more)) ≡ (holds part x y && more)
rows-apart part middle x y more first last =
    or-and (holds (record part { bottom = middle }) x y) (holds (record part { top = middle }) x y) more
    ∙ ap (λ b. b && more) (or-low (nat_le part.left x && nat_lt x part.right) (nat_le part.top y) (nat_lt y middle) (nat_le middle y) (nat_lt y part.bottom))
    ∙ ap (λ b. ((nat_le part.left x && nat_lt x part.right) && b) && more) (cut part.top middle part.bottom y first last)
    ∙ ap (λ b. b && more) (paired (nat_le part.left x) (nat_lt x part.right) (nat_le part.top y) (nat_lt y part.bottom))

-- ---- an area of a region on the surface

placed-there : (corner from long x : ℕ) → corner ≤ x → x < 65535 → (nat_le (min (corner + from) 65535) x && nat_lt x (min (min (corner + from) 65535 + long) 65535)) ≡ true
    → (nat_le from (x - corner) && nat_lt (x - corner) (from + long)) ≡ true
placed-there corner from long x behind within e = grind (arith, nat_tests)

placed-back : (corner from long x : ℕ) → corner ≤ x → x < 65535 → (nat_le from (x - corner) && nat_lt (x - corner) (from + long)) ≡ true
    → (nat_le (min (corner + from) 65535) x && nat_lt x (min (min (corner + from) 65535 + long) 65535)) ≡ true
placed-back corner from long x behind within e = grind (arith, nat_tests)

placed-side : (corner from long x : ℕ) → corner ≤ x → x < 65535
    → (nat_le (min (corner + from) 65535) x && nat_lt x (min (min (corner + from) 65535 + long) 65535)) ≡ (nat_le from (x - corner) && nat_lt (x - corner) (from + long))
placed-side corner from long x behind within = both_ways _ _ (placed-there corner from long x behind within) (placed-back corner from long x behind within)

-- it has the pixels that it has from its corner
pub placed-has : (corner : Point) (area : Area) (x y : ℕ) → corner.x ≤ x → corner.y ≤ y → x < 65535 → y < 65535
    → holds (placed corner area) x y ≡ has_pixel (x - corner.x) (y - corner.y) area
placed-has corner area x y behind below wide high =
    let there : Rect = placed corner area in
    sym (paired (nat_le there.left x) (nat_lt x there.right) (nat_le there.top y) (nat_lt y there.bottom))
    ∙ (λ i. placed-side corner.x area.x area.width x behind wide i && placed-side corner.y area.y area.height y below high i)
    ∙ paired (nat_le area.x (x - corner.x)) (nat_lt (x - corner.x) (area.x + area.width)) (nat_le area.y (y - corner.y)) (nat_lt (y - corner.y) (area.y + area.height))

-- what has all of a rectangle has each of its pixels
pub all-has : (outer inner : Rect) (x y : ℕ) → has_all outer inner ≡ true → holds inner x y ≡ true → holds outer x y ≡ true
all-has outer inner x y all hit = grind (arith, nat_tests)
