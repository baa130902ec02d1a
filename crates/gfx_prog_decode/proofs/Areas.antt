-- A tile drawn area by area.
use Rattle.std.proofs.Common.{◌≡◌, ◌∙◌, ap, sym, refl, subst, IsTrue, Bool, true, false, ◌&&◌, ◌||◌, if◌then◌else◌, nat_le, nat_lt, min, max, ℕ, ◌+◌, ◌-◌, ◌*◌, ◌<◌, ◌≤◌, ◌⊎◌, inl, inr, List, [], ◌∷◌, ◌++◌, length, take, get_or, arith}
use Rattle.std.specs.Prelude.{Some, slice_get}
use Rattle.std.proofs.lemmas.Bool.Decides.{nat_tests}
use Rattle.std.proofs.lemmas.Option.{get_or_from_slice_get}
use Rattle.std.proofs.lemmas.List.{take_more}
use Rattle.std.proofs.lemmas.List.Folds.{list_any-append}
use Rattle.std.specs.Cmp.{both_ways}
use Rattle.gfx_base.specs.declared.geometry.Point.{Point}
use Rattle.gfx_base.specs.declared.geometry.Rect.{Rect}
use Rattle.gfx_base.specs.declared.pixel.Pixel.{Pixel}
use Rattle.gfx_base.specs.Geometry.{holds, lies_in, moved, width_of, height_of, sized}
use Rattle.gfx_prog_block.specs.declared.area.Area.{Area}
use Rattle.gfx_surface.specs.Picture.{Picture, IsPicture, copied, overlaid, in_rect, shade, no_pixel, pixel_at}
use Rattle.gfx_surface.proofs.PictureLemmas.{pixel_at-drawn}
use Rattle.gfx_tile_state.specs.declared.state.TileState.{TileState}
use Rattle.gfx_tile_state.specs.Record.{pixel_of}
use Rattle.gfx_prog_decode.specs.declared.key.Key.{Key}
use Rattle.gfx_prog_decode.specs.Canvas.{IsCanvas}
use Rattle.gfx_prog_decode.specs.Inside.{area_shown, areas_shown, overlap}
use Rattle.gfx_prog_decode.specs.Showing.{cell_in, covered, has_pixel, shown_in, tile_pixel}
use Rattle.gfx_prog_decode.proofs.Pictures.{choices, overlay, redrawn_same, redrawn_self}

-- ---- one area

-- where the overlap is taken from the canvas, and to
abbrev pub source : Rect → Rect → Rect
source cell part = record { left = part.left - cell.left; top = part.top - cell.top; right = part.right - cell.left; bottom = part.bottom - cell.top }

abbrev pub target : Rect → Point
target part = record { x = part.left; y = part.top }

-- an area's part of a cell, along one side
one_side_there : (left right from long x : ℕ) → right ≤ 65535 → max left from < min right (min (from + long) 65535)
    → (nat_le (max left from) x && nat_lt x (max left from + ((min right (min (from + long) 65535) - left) - (max left from - left)))) ≡ true
    → ((nat_le left x && nat_lt x right) && (nat_le from x && nat_lt x (from + long))) ≡ true
one_side_there left right from long x wide some e = grind (arith, nat_tests)

one_side_back : (left right from long x : ℕ) → right ≤ 65535 → max left from < min right (min (from + long) 65535)
    → ((nat_le left x && nat_lt x right) && (nat_le from x && nat_lt x (from + long))) ≡ true
    → (nat_le (max left from) x && nat_lt x (max left from + ((min right (min (from + long) 65535) - left) - (max left from - left)))) ≡ true
one_side_back left right from long x wide some e = grind (arith, nat_tests)

one_side : (left right from long x : ℕ) → right ≤ 65535 → max left from < min right (min (from + long) 65535)
    → (nat_le (max left from) x && nat_lt x (max left from + ((min right (min (from + long) 65535) - left) - (max left from - left))))
    ≡ ((nat_le left x && nat_lt x right) && (nat_le from x && nat_lt x (from + long)))
one_side left right from long x wide some = both_ways _ _ (one_side_there left right from long x wide some) (one_side_back left right from long x wide some)

-- no part of it
no_side : (left right from long x : ℕ) → right ≤ 65535 → min right (min (from + long) 65535) ≤ max left from
    → ((nat_le left x && nat_lt x right) && (nat_le from x && nat_lt x (from + long))) ≡ false
no_side left right from long x wide none = grind (arith, nat_tests)

-- tests of both sides, sorted
dropped : (b : Bool) → (b && false) ≡ false
dropped true = refl
dropped false = refl

sorted : (a b c d e f g h : Bool) → (((a && b) && (e && f)) && ((c && d) && (g && h))) ≡ ((a && b && c && d) && (e && f && g && h))
sorted false b c d e f g h = refl
sorted true false c d e f g h = refl
sorted true true false d e f g h = dropped (e && f)
sorted true true true false e f g h = dropped (e && f)
sorted true true true true false f g h = refl
sorted true true true true true false g h = refl
sorted true true true true true true g h = refl

paired : (a b c d : Bool) → ((a && b) && (c && d)) ≡ (a && b && c && d)
paired false b c d = refl
paired true false c d = refl
paired true true c d = refl

-- the pixels that are taken are those that both have
same_place : (cell : Rect) (area : Area) (x y : ℕ) → cell.right ≤ 65535 → cell.bottom ≤ 65535
    → (overlap cell area).left < (overlap cell area).right → (overlap cell area).top < (overlap cell area).bottom
    → holds (moved (source cell (overlap cell area)) (target (overlap cell area))) x y ≡ (holds cell x y && has_pixel x y area)
same_place cell area x y wide high some rows =
    let part : Rect = overlap cell area in
    sym (paired (nat_le part.left x) (nat_lt x (part.left + width_of (source cell part))) (nat_le part.top y) (nat_lt y (part.top + height_of (source cell part))))
    ∙ (λ i. one_side cell.left cell.right area.x area.width x wide some i && one_side cell.top cell.bottom area.y area.height y high rows i)
    ∙ sorted (nat_le cell.left x) (nat_lt x cell.right) (nat_le cell.top y) (nat_lt y cell.bottom) (nat_le area.x x) (nat_lt x (area.x + area.width)) (nat_le area.y y) (nat_lt y (area.y + area.height))

-- where there is no part no pixel has both
no_place : (cell : Rect) (area : Area) (x y : ℕ) → cell.right ≤ 65535 → cell.bottom ≤ 65535
    → ((overlap cell area).right ≤ (overlap cell area).left) ⊎ ((overlap cell area).bottom ≤ (overlap cell area).top)
    → (holds cell x y && has_pixel x y area) ≡ false
no_place cell area x y wide high (inl none) =
    sym (sorted (nat_le cell.left x) (nat_lt x cell.right) (nat_le cell.top y) (nat_lt y cell.bottom) (nat_le area.x x) (nat_lt x (area.x + area.width)) (nat_le area.y y) (nat_lt y (area.y + area.height)))
    ∙ ap (λ b. b && ((nat_le cell.top y && nat_lt y cell.bottom) && (nat_le area.y y && nat_lt y (area.y + area.height)))) (no_side cell.left cell.right area.x area.width x wide none)
no_place cell area x y wide high (inr none) =
    sym (sorted (nat_le cell.left x) (nat_lt x cell.right) (nat_le cell.top y) (nat_lt y cell.bottom) (nat_le area.x x) (nat_lt x (area.x + area.width)) (nat_le area.y y) (nat_lt y (area.y + area.height)))
    ∙ ap (λ b. ((nat_le cell.left x && nat_lt x cell.right) && (nat_le area.x x && nat_lt x (area.x + area.width))) && b) (no_side cell.top cell.bottom area.y area.height y high none)
    ∙ dropped ((nat_le cell.left x && nat_lt x cell.right) && (nat_le area.x x && nat_lt x (area.x + area.width)))

-- the place of the canvas that a pixel is taken from
from_canvas : (left from x : ℕ) → left ≤ x → from ≤ x → x - max left from + (max left from - left) ≡ x - left
from_canvas left from x low high = omega arith

cell_left : (cell : Rect) (area : Area) (x y : ℕ) → (holds cell x y && has_pixel x y area) ≡ true → cell.left ≤ x
cell_left cell area x y hit = grind (arith, nat_tests)

area_left : (cell : Rect) (area : Area) (x y : ℕ) → (holds cell x y && has_pixel x y area) ≡ true → area.x ≤ x
area_left cell area x y hit = grind (arith, nat_tests)

cell_top : (cell : Rect) (area : Area) (x y : ℕ) → (holds cell x y && has_pixel x y area) ≡ true → cell.top ≤ y
cell_top cell area x y hit = grind (arith, nat_tests)

area_top : (cell : Rect) (area : Area) (x y : ℕ) → (holds cell x y && has_pixel x y area) ≡ true → area.y ≤ y
area_top cell area x y hit = grind (arith, nat_tests)

-- an area is drawn
pub area_drawn : (picture canvas : Picture) (cell : Rect) (area : Area) → cell.right ≤ 65535 → cell.bottom ≤ 65535
    → (overlap cell area).left < (overlap cell area).right → (overlap cell area).top < (overlap cell area).bottom
    → copied canvas (source cell (overlap cell area)) (target (overlap cell area)) picture ≡ area_shown picture cell area canvas
unfolding copied
area_drawn picture canvas cell area wide high some rows =
    redrawn_same picture _ _ (λ x y column row.
    ap (λ b. if b then shade picture.format (pixel_at canvas (x - max cell.left area.x + (max cell.left area.x - cell.left)) (y - max cell.top area.y + (max cell.top area.y - cell.top))) else pixel_at picture x y)
    (same_place cell area x y wide high some rows)
    ∙ choices (holds cell x y && has_pixel x y area) _ _ _ _
    (λ hit i. shade picture.format (pixel_at canvas
    (from_canvas cell.left area.x x (cell_left cell area x y hit) (area_left cell area x y hit) i) (from_canvas cell.top area.y y (cell_top cell area x y hit) (area_top cell area x y hit) i)))
    (λ miss. refl))

-- or has no part
pub area_missed : (picture canvas : Picture) (cell : Rect) (area : Area) → IsPicture picture → cell.right ≤ 65535 → cell.bottom ≤ 65535
    → ((overlap cell area).right ≤ (overlap cell area).left) ⊎ ((overlap cell area).bottom ≤ (overlap cell area).top)
    → picture ≡ area_shown picture cell area canvas
area_missed picture canvas cell area shape wide high none =
    sym (redrawn_self picture _ shape (λ x y column row.
    ap (λ b. if b then shade picture.format (pixel_at canvas (x - cell.left) (y - cell.top)) else pixel_at picture x y) (no_place cell area x y wide high none)))

-- a cell that lies on a picture ends where places can be told
ends : (picture : Picture) (cell : Rect) → IsPicture picture → IsTrue (lies_in picture.width picture.height cell) → (cell.right ≤ 65535) × (cell.bottom ≤ 65535)
ends picture cell shape inside =
    let wide : picture.width ≤ 8192 = shape.width_most in
    let high : picture.height ≤ 8192 = shape.height_most in
    (right wide inside, bottom high inside)
  where
    right : picture.width ≤ 8192 → IsTrue (lies_in picture.width picture.height cell) → cell.right ≤ 65535
    right wide inside = grind (arith, nat_tests)

    bottom : picture.height ≤ 8192 → IsTrue (lies_in picture.width picture.height cell) → cell.bottom ≤ 65535
    bottom high inside = grind (arith, nat_tests)

-- the same of what is equal to the part
pub part_drawn : (picture canvas : Picture) (cell part : Rect) (area : Area) → part ≡ overlap cell area → IsPicture picture
    → IsTrue (lies_in picture.width picture.height cell) → part.left < part.right → part.top < part.bottom
    → copied canvas (source cell part) (target part) picture ≡ area_shown picture cell area canvas
part_drawn picture canvas cell part area same shape inside some rows =
    subst (λ (p : Rect). p.left < p.right → p.top < p.bottom → copied canvas (source cell p) (target p) picture ≡ area_shown picture cell area canvas) (sym same)
    (area_drawn picture canvas cell area (ends picture cell shape inside).0 (ends picture cell shape inside).1) some rows

pub part_missed : (picture canvas : Picture) (cell part : Rect) (area : Area) → part ≡ overlap cell area → IsPicture picture
    → IsTrue (lies_in picture.width picture.height cell) → (part.right ≤ part.left) ⊎ (part.bottom ≤ part.top)
    → picture ≡ area_shown picture cell area canvas
part_missed picture canvas cell part area same shape inside none =
    subst (λ (p : Rect). (p.right ≤ p.left) ⊎ (p.bottom ≤ p.top) → picture ≡ area_shown picture cell area canvas) (sym same)
    (area_missed picture canvas cell area shape (ends picture cell shape inside).0 (ends picture cell shape inside).1) none

-- ---- areas in turn

-- before the first
pub none_shown : (picture canvas : Picture) (cell : Rect) → IsPicture picture → picture ≡ areas_shown picture cell [] canvas
none_shown picture canvas cell shape =
    sym (redrawn_self picture _ shape (λ x y column row.
    ap (λ b. if b then shade picture.format (pixel_at canvas (x - cell.left) (y - cell.top)) else pixel_at picture x y) (dropped (holds cell x y))))

-- one more
pub one_more : (picture canvas : Picture) (cell : Rect) (areas : List Area) (area : Area)
    → area_shown (areas_shown picture cell areas canvas) cell area canvas ≡ areas_shown picture cell (areas ++ area ∷ []) canvas
one_more picture canvas cell areas area =
    redrawn_same picture _ _ (λ x y column row.
    ap (λ p. if holds cell x y && has_pixel x y area then shade picture.format (pixel_at canvas (x - cell.left) (y - cell.top)) else p)
    (pixel_at-drawn picture.width picture.height x y (λ x y. if holds cell x y && covered areas x y then shade picture.format (pixel_at canvas (x - cell.left) (y - cell.top)) else pixel_at picture x y) no_pixel column row)
    ∙ merged (holds cell x y) (covered areas x y) (has_pixel x y area) _ _
    ∙ ap (λ b. if holds cell x y && b then shade picture.format (pixel_at canvas (x - cell.left) (y - cell.top)) else pixel_at picture x y) (sym (list_any-append (has_pixel x y) areas (area ∷ []))))
  where
    merged : (h c a : Bool) (p q : Pixel) → (if h && a then p else (if h && c then p else q)) ≡ (if h && (c || (a || false)) then p else q)
    merged false c a p q = refl
    merged true true true p q = refl
    merged true true false p q = refl
    merged true false true p q = refl
    merged true false false p q = refl

-- and so at the next of a list
pub next_shown : (old now new canvas : Picture) (cell : Rect) (areas : List Area) (index : ℕ) (d : Area) → index < length areas
    → now ≡ areas_shown old cell (take index areas) canvas → new ≡ area_shown now cell (get_or areas index d) canvas
    → new ≡ areas_shown old cell (take (index + 1) areas) canvas
next_shown old now new canvas cell areas index d below before drawn =
    drawn
    ∙ ap (λ p. area_shown p cell (get_or areas index d) canvas) before
    ∙ one_more old canvas cell (take index areas) (get_or areas index d)
    ∙ ap (λ l. areas_shown old cell l canvas) (sym (take_more areas index d below))

-- ---- the tile on the canvas

-- a pixel of the canvas
canvas_pixel : (old : Picture) (pixels : List Pixel) (tile : TileState) (x y : ℕ) → IsCanvas old
    → ((y x : ℕ) → y < 64 → x < 64 → slice_get pixels (y * 64 + x) ≡ Some (pixel_of tile y x)) → x < 64 → y < 64
    → pixel_at (overlaid old (sized 64 64) pixels) x y ≡ pixel_of tile y x
unfolding overlaid
canvas_pixel old pixels tile x y is each column row =
    let width : x < old.width = subst (λ w. x < w) (sym is.width) column in
    let height : y < old.height = subst (λ h. y < h) (sym is.height) row in
    pixel_at-drawn old.width old.height x y (overlay old (sized 64 64) pixels) no_pixel width height
    ∙ ap (λ b. if b then shade old.format (in_rect (sized 64 64) pixels x y) else pixel_at old x y) (hit x y column row)
    ∙ ap (λ f. shade f (in_rect (sized 64 64) pixels x y)) is.format
    ∙ ap (λ k. get_or pixels k no_pixel) (place x y)
    ∙ get_or_from_slice_get pixels (y * 64 + x) (pixel_of tile y x) no_pixel (each y x row column)
  where
    hit : (x y : ℕ) → x < 64 → y < 64 → holds (sized 64 64) x y ≡ true
    hit x y column row = grind (arith, nat_tests)

    place : (x y : ℕ) → (y - 0) * (64 - 0) + (x - 0) ≡ y * 64 + x
    place x y = omega arith

-- areas drawn from it show the tile
pub tile_shown : (picture old canvas : Picture) (key : Key) (areas : List Area) (rect : Rect) (pixels : List Pixel) (tile : TileState) → IsCanvas old
    → ((y x : ℕ) → y < 64 → x < 64 → slice_get pixels (y * 64 + x) ≡ Some (pixel_of tile y x)) → rect ≡ sized 64 64
    → canvas ≡ overlaid old rect pixels
    → areas_shown picture (cell_in picture.width picture.height key) areas canvas ≡ shown_in picture key areas tile
unfolding shown_in
tile_shown picture old canvas key areas rect pixels tile is each whole put =
    let filled : canvas ≡ overlaid old (sized 64 64) pixels = put ∙ ap (λ r. overlaid old r pixels) whole in
    redrawn_same picture _ _ (λ x y column row.
    choices (holds (cell_in picture.width picture.height key) x y && covered areas x y)
    (shade picture.format (pixel_at canvas (x - 64 * key.x) (y - 64 * key.y))) (pixel_at picture x y) (tile_pixel picture key tile x y) (pixel_at picture x y)
    (λ hit. ap (shade picture.format)
    (ap (λ (c : Picture). pixel_at c (x - 64 * key.x) (y - 64 * key.y)) filled
    ∙ canvas_pixel old pixels tile (x - 64 * key.x) (y - 64 * key.y) is each (wide picture.width picture.height key.x key.y x y (covered areas x y) hit) (low picture.width picture.height key.x key.y x y (covered areas x y) hit)))
    (λ miss. refl))
  where
    wide : (w h kx ky x y : ℕ) (b : Bool) → ((nat_le (64 * kx) x && nat_lt x (min (64 * kx + 64) w) && nat_le (64 * ky) y && nat_lt y (min (64 * ky + 64) h)) && b) ≡ true → x - 64 * kx < 64
    wide w h kx ky x y b hit = grind (arith, nat_tests)

    low : (w h kx ky x y : ℕ) (b : Bool) → ((nat_le (64 * kx) x && nat_lt x (min (64 * kx + 64) w) && nat_le (64 * ky) y && nat_lt y (min (64 * ky + 64) h)) && b) ≡ true → y - 64 * ky < 64
    low w h kx ky x y b hit = grind (arith, nat_tests)

-- a canvas that is drawn on is one
pub still_canvas : (old new : Picture) (rect : Rect) (pixels : List Pixel) → IsCanvas old → new ≡ overlaid old rect pixels → IsCanvas new
unfolding overlaid
still_canvas old new rect pixels is put = subst IsCanvas (sym put) record { width = is.width; height = is.height; format = is.format }
