-- Parts of a tile, drawn.
use Rattle.std.proofs.Common.{◌≡◌, ◌∙◌, ap, sym, refl, subst, IsTrue, Bool, true, false, ◌&&◌, ◌||◌, min, if◌then◌else◌, ℕ, ◌+◌, ◌-◌, ◌*◌, ◌/◌, ◌%◌, ◌<◌, ◌≤◌, ◌⊎◌, List, [], ◌∷◌, length, take, get_or, Result, Ok, Err, arith}
use Rattle.std.specs.Prelude.{OnOk}
use Rattle.std.proofs.lemmas.Bool.Decides.{nat_tests}
use Rattle.std.proofs.lemmas.List.{take_more}
use Rattle.std.proofs.lemmas.List.Folds.{list_any-append}
use Rattle.gfx_base.specs.declared.geometry.Point.{Point}
use Rattle.gfx_base.specs.declared.geometry.Rect.{Rect}
use Rattle.gfx_base.specs.declared.pixel.Pixel.{Pixel}
use Rattle.gfx_base.specs.Cells.{has_pixels}
use Rattle.gfx_base.specs.Geometry.{holds, lies_in, moved, sized, width_of, height_of}
use Rattle.gfx_surface.specs.Picture.{Picture, IsPicture, copied, in_rect, no_pixel, overlaid, pixel_at, shade}
use Rattle.gfx_surface.proofs.PictureLemmas.{pixel_at-drawn}
use Rattle.gfx_prog_block.specs.declared.area.Area.{Area}
use Rattle.gfx_prog_block.specs.declared.tile.TileHead.{TileHead}
use Rattle.gfx_rfx_video.specs.Inside.{IsCanvas, IsPart, begins_in, canvas_pixel, corner_of, has_all, is_in_one, is_whole_cell, overlap, painted_at, placed, tile_pixel}
use Rattle.gfx_rfx_video.specs.Showing.{changes, covered, drawn_where, tile_in}
use Rattle.gfx_rfx_video.proofs.Drawn.{drawn-none, drawn-same, drawn-then}
use Rattle.gfx_rfx_video.proofs.Shares.{all-has, area-left, area-top, columns-apart, from-canvas, no-place, part-left, part-top, placed-has, rows-apart, same-place, source}

-- ---- one area

taken : (picture canvas : Picture) (part area : Rect) (at : Point) → at.x ≤ part.left → at.y ≤ part.top
    → (overlap part area).left < (overlap part area).right → (overlap part area).top < (overlap part area).bottom
    → copied canvas (source at (overlap part area)) (corner_of (overlap part area)) picture ≡ drawn_where (λ x y. holds part x y && holds area x y) (canvas_pixel canvas at) picture
unfolding copied
taken picture canvas part area at behind below some rows =
    let both : Rect = overlap part area in
    drawn-same picture (holds (moved (source at both) (corner_of both))) (λ x y. holds part x y && holds area x y)
    (λ x y. pixel_at canvas (x - both.left + (both.left - at.x)) (y - both.top + (both.top - at.y))) (canvas_pixel canvas at)
    (λ x y column row. same-place part area at x y behind below some rows)
    (λ x y hit i. pixel_at canvas
    (from-canvas part.left area.left at.x x behind (part-left part area x y hit) (area-left part area x y hit) i)
    (from-canvas part.top area.top at.y y below (part-top part area x y hit) (area-top part area x y hit) i))

-- what a part shares with an area is drawn
pub area-drawn : (picture canvas : Picture) (part area both : Rect) (at : Point) → both ≡ overlap part area → IsPart picture at part → both.left < both.right → both.top < both.bottom
    → copied canvas (source at both) (corner_of both) picture ≡ drawn_where (λ x y. holds part x y && holds area x y) (canvas_pixel canvas at) picture
area-drawn picture canvas part area both at same whole some rows =
    subst (λ (b : Rect). b.left < b.right → b.top < b.bottom
    → copied canvas (source at b) (corner_of b) picture ≡ drawn_where (λ x y. holds part x y && holds area x y) (canvas_pixel canvas at) picture) (sym same)
    (taken picture canvas part area at whole.behind whole.below) some rows

-- or they share nothing
pub area-missed : (picture canvas : Picture) (part area both : Rect) (at : Point) → both ≡ overlap part area → IsPicture picture → (both.right ≤ both.left) ⊎ (both.bottom ≤ both.top)
    → picture ≡ drawn_where (λ x y. holds part x y && holds area x y) (canvas_pixel canvas at) picture
area-missed picture canvas part area both at same shape none =
    drawn-none picture (λ x y. holds part x y && holds area x y) (canvas_pixel canvas at) shape
    (λ x y column row. no-place part area x y (subst (λ (b : Rect). (b.right ≤ b.left) ⊎ (b.bottom ≤ b.top)) same none))

-- ---- areas in turn

module _ (corner at : Point) (part : Rect) (canvas : Picture) where
  -- what these areas have of the part is drawn
  abbrev pub DrawnBy : List Area → Picture → Picture → Type 0
  DrawnBy areas old new = new ≡ drawn_where (λ x y. holds part x y && painted_at corner areas x y) (canvas_pixel canvas at) old

  dropped : (b : Bool) → (b && false) ≡ false
  dropped true = refl
  dropped false = refl

  pub before-areas : (picture : Picture) → IsPicture picture → DrawnBy [] picture picture
  before-areas picture shape = drawn-none picture (λ x y. holds part x y && painted_at corner [] x y) (canvas_pixel canvas at) shape (λ x y column row. dropped (holds part x y))

  pub next-area : (old now new : Picture) (areas : List Area) (index : ℕ) (d : Area) (there : Rect) → index < length areas → there ≡ placed corner (get_or areas index d)
      → DrawnBy (take index areas) old now → new ≡ drawn_where (λ x y. holds part x y && holds there x y) (canvas_pixel canvas at) now → DrawnBy (take (index + 1) areas) old new
  next-area old now new areas index d there below is before drawn =
      drawn-then old now new (λ x y. holds part x y && painted_at corner (take index areas) x y) (λ x y. holds part x y && holds there x y)
      (λ x y. holds part x y && painted_at corner (take (index + 1) areas) x y) (canvas_pixel canvas at) before drawn
      (λ x y. ap (λ (r : Rect). (holds part x y && painted_at corner (take index areas) x y) || (holds part x y && holds r x y)) is
      ∙ joined (holds part x y) (painted_at corner (take index areas) x y) (holds (placed corner (get_or areas index d)) x y)
      ∙ ap (λ b. holds part x y && b) (sym (list_any-append (λ area. holds (placed corner area) x y) (take index areas) (get_or areas index d ∷ [])))
      ∙ ap (λ l. holds part x y && painted_at corner l x y) (sym (take_more areas index d below)))
    where
      joined : (h c a : Bool) → ((h && c) || (h && a)) ≡ (h && (c || (a || false)))
      joined false c a = refl
      joined true true a = refl
      joined true false true = refl
      joined true false false = refl

-- a part without pixels
pub empty-drawn : (picture : Picture) (part : Rect) (more : ℕ → ℕ → Bool) (f : ℕ → ℕ → Pixel) → IsPicture picture → has_pixels part ≡ false
    → picture ≡ drawn_where (λ x y. holds part x y && more x y) f picture
empty-drawn picture part more f shape empty =
    drawn-none picture (λ x y. holds part x y && more x y) f shape (λ x y column row. ap (λ b. b && more x y) (none part x y empty))
  where
    none : (part : Rect) (x y : ℕ) → has_pixels part ≡ false → holds part x y ≡ false
    none part x y empty = grind (arith, nat_tests)

-- ---- two parts of a part

module _ (canvas old now new : Picture) (at : Point) (part : Rect) (middle : ℕ) (more : ℕ → ℕ → Bool) where
  -- drawn one after the other
  pub both-columns : part.left ≤ middle → middle ≤ part.right
      → now ≡ drawn_where (λ x y. holds (record part { right = middle }) x y && more x y) (canvas_pixel canvas at) old
      → new ≡ drawn_where (λ x y. holds (record part { left = middle }) x y && more x y) (canvas_pixel canvas at) now
      → new ≡ drawn_where (λ x y. holds part x y && more x y) (canvas_pixel canvas at) old
  both-columns from to first last =
      drawn-then old now new (λ x y. holds (record part { right = middle }) x y && more x y) (λ x y. holds (record part { left = middle }) x y && more x y) (λ x y. holds part x y && more x y)
      (canvas_pixel canvas at) first last (λ x y. columns-apart part middle x y (more x y) from to)

  pub both-rows : part.top ≤ middle → middle ≤ part.bottom
      → now ≡ drawn_where (λ x y. holds (record part { bottom = middle }) x y && more x y) (canvas_pixel canvas at) old
      → new ≡ drawn_where (λ x y. holds (record part { top = middle }) x y && more x y) (canvas_pixel canvas at) now
      → new ≡ drawn_where (λ x y. holds part x y && more x y) (canvas_pixel canvas at) old
  both-rows from to first last =
      drawn-then old now new (λ x y. holds (record part { bottom = middle }) x y && more x y) (λ x y. holds (record part { top = middle }) x y && more x y) (λ x y. holds part x y && more x y)
      (canvas_pixel canvas at) first last (λ x y. rows-apart part middle x y (more x y) from to)

-- where a part is parted
pub columns-ordered : (w h : ℕ) (part : Rect) (middle : ℕ) → IsTrue (lies_in w h part) → middle ≡ min (part.left / 64 * 64 + 64) part.right → (part.left ≤ middle) × (middle ≤ part.right)
columns-ordered w h part middle inside is = let ordered : part.left ≤ part.right = by w h part inside in (omega (arith, ordered, is), omega (arith, is))
  where
    by : (w h : ℕ) (part : Rect) → IsTrue (lies_in w h part) → part.left ≤ part.right
    by w h part inside = grind (arith, nat_tests)

pub rows-ordered : (w h : ℕ) (part : Rect) (middle : ℕ) → IsTrue (lies_in w h part) → middle ≡ min (part.top / 64 * 64 + 64) part.bottom → (part.top ≤ middle) × (middle ≤ part.bottom)
rows-ordered w h part middle inside is = let ordered : part.top ≤ part.bottom = by w h part inside in (omega (arith, ordered, is), omega (arith, is))
  where
    by : (w h : ℕ) (part : Rect) → IsTrue (lies_in w h part) → part.top ≤ part.bottom
    by w h part inside = grind (arith, nat_tests)

-- what follows where a call gave an answer
pub on-ok : {X E : Type 0} (result : Result X E) (P Q : Type 0) → (P → Q) → OnOk result P → OnOk result Q
on-ok (Ok x) P Q f p = f p
on-ok (Err e) P Q f p = tt

-- ---- a tile

-- a pixel of a tile lies in the message's rectangle
pub tile-left : (rect : Rect) (head : TileHead) (x y : ℕ) → holds (tile_in rect head) x y ≡ true → rect.left ≤ x
tile-left rect head x y hit = grind (arith, nat_tests)

pub tile-right : (rect : Rect) (head : TileHead) (x y : ℕ) → holds (tile_in rect head) x y ≡ true → x < rect.right
tile-right rect head x y hit = grind (arith, nat_tests)

pub tile-top : (rect : Rect) (head : TileHead) (x y : ℕ) → holds (tile_in rect head) x y ≡ true → rect.top ≤ y
tile-top rect head x y hit = grind (arith, nat_tests)

pub tile-bottom : (rect : Rect) (head : TileHead) (x y : ℕ) → holds (tile_in rect head) x y ≡ true → y < rect.bottom
tile-bottom rect head x y hit = grind (arith, nat_tests)

-- a rectangle on a picture ends where places can be told
pub rect-narrow : (picture : Picture) (rect : Rect) → IsPicture picture → IsTrue (lies_in picture.width picture.height rect) → rect.right ≤ 8192
rect-narrow picture rect shape inside = by picture.width picture.height rect shape.width_most inside
  where
    by : (w h : ℕ) (rect : Rect) → w ≤ 8192 → IsTrue (lies_in w h rect) → rect.right ≤ 8192
    by w h rect most inside = grind (arith, nat_tests)

pub rect-low : (picture : Picture) (rect : Rect) → IsPicture picture → IsTrue (lies_in picture.width picture.height rect) → rect.bottom ≤ 8192
rect-low picture rect shape inside = by picture.width picture.height rect shape.height_most inside
  where
    by : (w h : ℕ) (rect : Rect) → h ≤ 8192 → IsTrue (lies_in w h rect) → rect.bottom ≤ 8192
    by w h rect most inside = grind (arith, nat_tests)

-- areas on the surface have the pixels of a tile that they have from their corner
painted-covered : (corner : Point) (areas : List Area) (x y : ℕ) → corner.x ≤ x → corner.y ≤ y → x < 65535 → y < 65535 → painted_at corner areas x y ≡ covered areas (x - corner.x) (y - corner.y)
painted-covered corner [] x y behind below wide high = refl
painted-covered corner (area ∷ areas) x y behind below wide high =
    λ i. placed-has corner area x y behind below wide high i || painted-covered corner areas x y behind below wide high i

pub same-changes : (rect : Rect) (areas : List Area) (head : TileHead) (x y : ℕ) → rect.right ≤ 8192 → rect.bottom ≤ 8192
    → (holds (tile_in rect head) x y && painted_at (corner_of rect) areas x y) ≡ changes rect areas head x y
same-changes rect areas head x y narrow low = by (holds (tile_in rect head) x y) refl
  where
    by : (b : Bool) → holds (tile_in rect head) x y ≡ b → (holds (tile_in rect head) x y && painted_at (corner_of rect) areas x y) ≡ changes rect areas head x y
    by true hit =
        let from : rect.left ≤ x = tile-left rect head x y hit in
        let to : x < rect.right = tile-right rect head x y hit in
        let above : rect.top ≤ y = tile-top rect head x y hit in
        let under : y < rect.bottom = tile-bottom rect head x y hit in
        ap (λ b. holds (tile_in rect head) x y && b) (painted-covered (corner_of rect) areas x y from above (omega arith) (omega arith))
    by false miss = ap (λ b. b && painted_at (corner_of rect) areas x y) miss ∙ sym (ap (λ b. b && covered areas (x - rect.left) (y - rect.top)) miss)

-- where a pixel that changes stands in the tile
pub tile-wide : (rect : Rect) (areas : List Area) (head : TileHead) (x y : ℕ) → changes rect areas head x y ≡ true → x - (tile_in rect head).left < 64
tile-wide rect areas head x y hit = by rect head x y (covered areas (x - rect.left) (y - rect.top)) hit
  where
    by : (rect : Rect) (head : TileHead) (x y : ℕ) (b : Bool) → (holds (tile_in rect head) x y && b) ≡ true → x - (rect.left + 64 * head.x_idx) < 64
    by rect head x y b hit = grind (arith, nat_tests)

pub tile-high : (rect : Rect) (areas : List Area) (head : TileHead) (x y : ℕ) → changes rect areas head x y ≡ true → y - (tile_in rect head).top < 64
tile-high rect areas head x y hit = by rect head x y (covered areas (x - rect.left) (y - rect.top)) hit
  where
    by : (rect : Rect) (head : TileHead) (x y : ℕ) (b : Bool) → (holds (tile_in rect head) x y && b) ≡ true → y - (rect.top + 64 * head.y_idx) < 64
    by rect head x y b hit = grind (arith, nat_tests)

-- a tile that doesn't begin in the rectangle has no pixel in it
pub outside-none : (rect : Rect) (areas : List Area) (head : TileHead) (x y : ℕ) → begins_in rect head ≡ false → changes rect areas head x y ≡ false
outside-none rect areas head x y out = ap (λ b. b && covered areas (x - rect.left) (y - rect.top)) (none rect head x y out)
  where
    none : (rect : Rect) (head : TileHead) (x y : ℕ) → begins_in rect head ≡ false → holds (tile_in rect head) x y ≡ false
    none rect head x y out = grind (arith, nat_tests)

-- ---- the pixels of a tile on the canvas

-- a canvas that is drawn on is one
pub still-canvas : (old new : Picture) (rect : Rect) (pixels : List Pixel) → IsCanvas old → new ≡ overlaid old rect pixels → IsCanvas new
unfolding overlaid
still-canvas old new rect pixels is put = subst IsCanvas (sym put) (record { width = is.width; height = is.height; format = is.format })

-- a pixel of the canvas
on-canvas : (old : Picture) (pixels : List Pixel) (x y : ℕ) → IsCanvas old → x < 64 → y < 64 → pixel_at (overlaid old (sized 64 64) pixels) x y ≡ get_or pixels (y * 64 + x) no_pixel
unfolding overlaid
on-canvas old pixels x y is column row =
    let width : x < old.width = subst (λ w. x < w) (sym is.width) column in
    let height : y < old.height = subst (λ h. y < h) (sym is.height) row in
    pixel_at-drawn old.width old.height x y (λ x y. if holds (sized 64 64) x y then shade old.format (in_rect (sized 64 64) pixels x y) else pixel_at old x y) no_pixel width height
    ∙ ap (λ b. if b then shade old.format (in_rect (sized 64 64) pixels x y) else pixel_at old x y) (hit x y column row)
    ∙ ap (λ f. shade f (in_rect (sized 64 64) pixels x y)) is.format
    ∙ ap (λ k. get_or pixels k no_pixel) (place x y)
  where
    hit : (x y : ℕ) → x < 64 → y < 64 → holds (sized 64 64) x y ≡ true
    hit x y column row = grind (arith, nat_tests)

    place : (x y : ℕ) → (y - 0) * (64 - 0) + (x - 0) ≡ y * 64 + x
    place x y = omega arith

-- what areas have of a tile, drawn from the canvas, is what changes of it
pub tile-drawn : (picture old canvas new : Picture) (rect whole tile : Rect) (areas : List Area) (head : TileHead) (pixels : List Pixel) → rect.right ≤ 8192 → rect.bottom ≤ 8192 → IsCanvas old
    → whole ≡ sized 64 64 → canvas ≡ overlaid old whole pixels → tile ≡ tile_in rect head
    → new ≡ drawn_where (λ x y. holds tile x y && painted_at (corner_of rect) areas x y) (canvas_pixel canvas (corner_of tile)) picture
    → new ≡ drawn_where (changes rect areas head) (tile_pixel pixels (corner_of (tile_in rect head))) picture
tile-drawn picture old canvas new rect whole tile areas head pixels narrow low is sides put stands drawn =
    drawn
    ∙ ap (λ (t : Rect). drawn_where (λ x y. holds t x y && painted_at (corner_of rect) areas x y) (canvas_pixel canvas (corner_of t)) picture) stands
    ∙ drawn-same picture (λ x y. holds (tile_in rect head) x y && painted_at (corner_of rect) areas x y) (changes rect areas head)
    (canvas_pixel canvas (corner_of (tile_in rect head))) (tile_pixel pixels (corner_of (tile_in rect head)))
    (λ x y column row. same-changes rect areas head x y narrow low)
    (λ x y hit.
    ap (λ (c : Picture). pixel_at c (x - (tile_in rect head).left) (y - (tile_in rect head).top)) (put ∙ ap (λ r. overlaid old r pixels) sides)
    ∙ on-canvas old pixels (x - (tile_in rect head).left) (y - (tile_in rect head).top) is (tile-wide rect areas head x y hit) (tile-high rect areas head x y hit))

-- ---- a tile that is a cell

-- its pixels, put there
pub cell-put : (picture new : Picture) (tile : Rect) (pixels : List Pixel) → IsTrue (is_whole_cell tile) → new ≡ overlaid picture tile pixels
    → new ≡ drawn_where (holds tile) (tile_pixel pixels (corner_of tile)) picture
unfolding overlaid
cell-put picture new tile pixels whole put =
    put
    ∙ drawn-same picture (holds tile) (holds tile) (in_rect tile pixels) (tile_pixel pixels (corner_of tile)) (λ x y column row. refl)
    (λ x y hit. ap (λ w. get_or pixels ((y - tile.top) * w + (x - tile.left)) no_pixel) (width tile whole))
  where
    width : (tile : Rect) → IsTrue (is_whole_cell tile) → width_of tile ≡ 64
    width tile whole = grind (arith, nat_tests)

-- a cell ends where the next begins
pub cell-column : (tile : Rect) → IsTrue (is_whole_cell tile) → tile.right ≤ tile.left / 64 * 64 + 64
cell-column tile whole = omega (arith, first tile whole, width tile whole)
  where
    first : (tile : Rect) → IsTrue (is_whole_cell tile) → tile.left % 64 ≡ 0
    first tile whole = grind (arith, nat_tests)

    width : (tile : Rect) → IsTrue (is_whole_cell tile) → width_of tile ≡ 64
    width tile whole = grind (arith, nat_tests)

pub cell-row : (tile : Rect) → IsTrue (is_whole_cell tile) → tile.bottom ≤ tile.top / 64 * 64 + 64
cell-row tile whole = omega (arith, first tile whole, height tile whole)
  where
    first : (tile : Rect) → IsTrue (is_whole_cell tile) → tile.top % 64 ≡ 0
    first tile whole = grind (arith, nat_tests)

    height : (tile : Rect) → IsTrue (is_whole_cell tile) → height_of tile ≡ 64
    height tile whole = grind (arith, nat_tests)

-- what one area has all of is painted everywhere
all-painted : (corner : Point) (areas : List Area) (tile : Rect) (x y : ℕ) → is_in_one corner areas tile ≡ true → holds tile x y ≡ true → painted_at corner areas x y ≡ true
all-painted corner [] tile x y any hit = any
all-painted corner (area ∷ areas) tile x y any hit =
    either (has_all (placed corner area) tile) (holds (placed corner area) x y) (is_in_one corner areas tile) (painted_at corner areas x y)
    (λ all. all-has (placed corner area) tile x y all hit) (λ some. all-painted corner areas tile x y some hit) any
  where
    or-true : (b : Bool) → (b || true) ≡ true
    or-true true = refl
    or-true false = refl

    either : (all has alls hases : Bool) → (all ≡ true → has ≡ true) → (alls ≡ true → hases ≡ true) → (all || alls) ≡ true → (has || hases) ≡ true
    either true has alls hases here there any = ap (λ b. b || hases) (here refl)
    either false has alls hases here there any = ap (λ b. has || b) (there any) ∙ or-true has

pub cell-drawn : (picture new : Picture) (rect tile : Rect) (areas : List Area) (head : TileHead) (pixels : List Pixel) → rect.right ≤ 8192 → rect.bottom ≤ 8192 → tile ≡ tile_in rect head
    → is_in_one (corner_of rect) areas tile ≡ true → new ≡ drawn_where (holds tile) (tile_pixel pixels (corner_of tile)) picture
    → new ≡ drawn_where (changes rect areas head) (tile_pixel pixels (corner_of (tile_in rect head))) picture
cell-drawn picture new rect tile areas head pixels narrow low stands all drawn =
    drawn
    ∙ ap (λ (t : Rect). drawn_where (holds t) (tile_pixel pixels (corner_of t)) picture) stands
    ∙ drawn-same picture (holds (tile_in rect head)) (changes rect areas head) (tile_pixel pixels (corner_of (tile_in rect head))) (tile_pixel pixels (corner_of (tile_in rect head)))
    (λ x y column row. by x y (holds (tile_in rect head) x y) refl ∙ same-changes rect areas head x y narrow low) (λ x y hit. refl)
  where
    by : (x y : ℕ) (b : Bool) → holds (tile_in rect head) x y ≡ b → holds (tile_in rect head) x y ≡ (holds (tile_in rect head) x y && painted_at (corner_of rect) areas x y)
    by x y true hit =
        hit ∙ sym (ap (λ b. holds (tile_in rect head) x y && b) (all-painted (corner_of rect) areas (tile_in rect head) x y (subst (λ (t : Rect). is_in_one (corner_of rect) areas t ≡ true) stands all) hit) ∙ ap (λ b. b && true) hit)
    by x y false miss = miss ∙ sym (ap (λ b. b && painted_at (corner_of rect) areas x y) miss)
