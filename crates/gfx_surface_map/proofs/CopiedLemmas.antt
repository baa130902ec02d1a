-- What copies of a rectangle leave that is put down from its pixels.
use Rattle.std.proofs.Common.{◌≡◌, ap, sym, ◌∙◌, subst, refl, IsTrue, Option, Some, None, true, false, Bool, ℕ, ◌+◌, ◌-◌, ◌*◌, ◌<◌, ◌≤◌, List, [], ◌∷◌, length, take, length-take, get_or, arith}
use Rattle.std.specs.Prelude.{IfSome}
use Rattle.std.specs.FinMap.{get, insert}
use Rattle.std.proofs.lemmas.Bool.Decides.{nat_tests}
use Rattle.std.proofs.lemmas.List.{take_all}
use Rattle.std.proofs.lemmas.List.Sums.{fold_more}
use Rattle.std.proofs.lemmas.List.Folds.{list_all_at}
use Rattle.std.proofs.lemmas.Nat.{mul-le}
use Rattle.gfx_base.specs.declared.geometry.Point.{Point}
use Rattle.gfx_base.specs.declared.geometry.Rect.{Rect}
use Rattle.gfx_base.specs.declared.pixel.Pixel.{Pixel}
use Rattle.gfx_base.specs.Geometry.{holds, lies_in, width_of, height_of, moved, fit_all}
use Rattle.gfx_surface.specs.Picture.{Picture, copied, overlaid, redrawn, rect_of, in_rect, shade, pixel_at, no_pixel}
use Rattle.gfx_surface.proofs.PictureLemmas.{choose, pixel_at-drawn}
use Rattle.gfx_surface_map.specs.declared.place.Place.{Place}
use Rattle.gfx_surface_map.specs.declared.place.Output.{Output}
use Rattle.gfx_surface_map.specs.Surfaces.{Surfaces}
use Rattle.gfx_surface_map.specs.Shown.{SurfaceMap, with_picture, copied_to, stamped}

-- a column and a row of a moved rectangle are among the rectangle's own
own_column : (rect : Rect) (to : Point) (x y : ℕ) → holds (moved rect to) x y ≡ true → x - to.x < width_of rect
own_column rect to x y hit = grind (arith, nat_tests)

own_row : (rect : Rect) (to : Point) (x y : ℕ) → holds (moved rect to) x y ≡ true → y - to.y < height_of rect
own_row rect to x y hit = grind (arith, nat_tests)

-- to put down the pixels of a rectangle is to copy it
pub overlaid-rect_of : (source done : Picture) (rect : Rect) (to : Point) → overlaid done (moved rect to) (rect_of source rect) ≡ copied source rect to done
unfolding overlaid copied
overlaid-rect_of source done rect to =
    λ i. redrawn done (λ x y. choose (holds (moved rect to) x y) (shade done.format (in_rect (moved rect to) (rect_of source rect) x y))
    (shade done.format (pixel_at source (x - to.x + rect.left) (y - to.y + rect.top))) (pixel_at done x y) (same x y) i)
  where
    same : (x y : ℕ) → holds (moved rect to) x y ≡ true
        → shade done.format (in_rect (moved rect to) (rect_of source rect) x y) ≡ shade done.format (pixel_at source (x - to.x + rect.left) (y - to.y + rect.top))
    same x y hit =
        let wide : to.x + width_of rect - to.x ≡ width_of rect = omega arith in
        ap (shade done.format) (
        ap (λ n. get_or (rect_of source rect) ((y - to.y) * n + (x - to.x)) no_pixel) wide
        ∙ pixel_at-drawn (width_of rect) (height_of rect) (x - to.x) (y - to.y) (λ x y. pixel_at source (x + rect.left) (y + rect.top)) no_pixel
        (own_column rect to x y hit) (own_row rect to x y hit))

-- the pixels of a rectangle of a source, put at points, are a copy of it to these
pub stamped-rect_of : (source : Picture) (rect : Rect) (points : List Point) (picture : Picture)
    → stamped rect (rect_of source rect) points picture ≡ copied_to source rect points picture
stamped-rect_of source rect [] picture = refl
stamped-rect_of source rect (point ∷ points) picture =
    ap (stamped rect (rect_of source rect) points) (overlaid-rect_of source picture rect point)
    ∙ stamped-rect_of source rect points (copied source rect point picture)

-- the same of surfaces that are named by their ids
pub stamped_is_copied : (table after : Surfaces) (from to : ℕ) (rect : Rect) (pixels : List Pixel) (points : List Point)
    → IfSome (get table from) (λ source. pixels ≡ rect_of source rect)
    → IfSome (get table to) (λ target. after ≡ insert table to (stamped rect pixels points target))
    → IfSome (get table from) (λ source. IfSome (get table to) (λ target. after ≡ insert table to (copied_to source rect points target)))
stamped_is_copied table after from to rect pixels points = by (get table from) (get table to)
  where
    by : (s t : Option Picture) → IfSome s (λ source. pixels ≡ rect_of source rect)
        → IfSome t (λ target. after ≡ insert table to (stamped rect pixels points target))
        → IfSome s (λ source. IfSome t (λ target. after ≡ insert table to (copied_to source rect points target)))
    by (Some source) (Some target) read put =
        put ∙ ap (λ (pixels : List Pixel). insert table to (stamped rect pixels points target)) read
        ∙ ap (insert table to) (stamped-rect_of source rect points target)
    by (Some source) None read put = put
    by None t read put = read

-- one more point has its pixels
pub stamped-more : (old done new : Picture) (rect : Rect) (pixels : List Pixel) (points : List Point) (i : ℕ) (d : Point) → i < length points
    → new ≡ overlaid done (moved rect (get_or points i d)) pixels
    → done ≡ stamped rect pixels (take i points) old → new ≡ stamped rect pixels (take (i + 1) points) old
stamped-more old done new rect pixels points i d below is before =
    is ∙ ap (λ (done : Picture). overlaid done (moved rect (get_or points i d)) pixels) before
    ∙ sym (fold_more (λ done point. overlaid done (moved rect point) pixels) old points i d below)

-- all points have theirs
pub stamped-all : (old done : Picture) (rect : Rect) (pixels : List Pixel) (points : List Point) (i : ℕ) → length points ≤ i
    → done ≡ stamped rect pixels (take i points) old → done ≡ stamped rect pixels points old
stamped-all old done rect pixels points i end is =
    is ∙ ap (λ (points : List Point). stamped rect pixels points old) (take_all i points end)

-- a rectangle that fits at all points fits at each
pub fits_at_each : (width height now_width now_height : ℕ) (rect : Rect) (points : List Point) (i : ℕ) (d : Point) → now_width ≡ width → now_height ≡ height
    → IsTrue (fit_all width height rect points) → i < length points → IsTrue (lies_in now_width now_height (moved rect (get_or points i d)))
fits_at_each width height now_width now_height rect points i d wide high all below =
    subst IsTrue (λ j. lies_in (sym wide j) (sym high j) (moved rect (get_or points i d)))
    (by (lies_in width height (moved rect (get_or points i d))) refl)
  where
    by : (b : Bool) → lies_in width height (moved rect (get_or points i d)) ≡ b → IsTrue b
    by true e = refl
    by false e =
        let none : fit_all width height rect points ≡ false = list_all_at (λ point. lies_in width height (moved rect point)) points i d below e in
        let no : true ≡ false = sym all ∙ none in absurd cc

-- a rectangle has no more pixels than the area that it lies in
pub area_within : (width height : ℕ) (rect : Rect) → IsTrue (lies_in width height rect) → width_of rect * height_of rect ≤ width * height
area_within width height rect inside = mul-le (width_of rect) (height_of rect) width height (across width height rect inside) (down width height rect inside)
  where
    across : (width height : ℕ) (rect : Rect) → IsTrue (lies_in width height rect) → width_of rect ≤ width
    across width height rect inside = grind (arith, nat_tests)

    down : (width height : ℕ) (rect : Rect) → IsTrue (lies_in width height rect) → height_of rect ≤ height
    down width height rect inside = grind (arith, nat_tests)

-- what is kept once a surface was copied to
pub copied_back : (old : SurfaceMap) (table after : Surfaces) (output : Output) (maps : List (ℕ × Place)) (room new_room from to : ℕ) (rect : Rect) (points : List Point)
    → record { shown = record { surfaces = table; output = output; maps = maps }; room = room } ≡ old → new_room ≡ room
    → IfSome (get table from) (λ source. IfSome (get table to) (λ target. after ≡ insert table to (copied_to source rect points target)))
    → IfSome (get old.shown.surfaces from) (λ source. IfSome (get old.shown.surfaces to) (λ target.
    record { shown = record { surfaces = after; output = output; maps = maps }; room = new_room } ≡ record old { shown = with_picture old.shown to (copied_to source rect points target) }))
copied_back old table after output maps room new_room from to rect points is same copies =
    subst (λ (old : SurfaceMap). IfSome (get old.shown.surfaces from) (λ source. IfSome (get old.shown.surfaces to) (λ target.
    record { shown = record { surfaces = after; output = output; maps = maps }; room = new_room } ≡ record old { shown = with_picture old.shown to (copied_to source rect points target) })))
    is (by (get table from) (get table to) copies)
  where
    by : (s t : Option Picture) → IfSome s (λ source. IfSome t (λ target. after ≡ insert table to (copied_to source rect points target)))
        → IfSome s (λ source. IfSome t (λ target.
        ◌≡◌ {A = SurfaceMap} (record { shown = record { surfaces = after; output = output; maps = maps }; room = new_room })
        (record { shown = record { surfaces = insert table to (copied_to source rect points target); output = output; maps = maps }; room = room })))
    by (Some s) (Some t) e = λ i. record { shown = record { surfaces = e i; output = output; maps = maps }; room = same i }
    by (Some s) None e = e
    by None t e = e

-- the front of the room is as long as the rectangle has pixels
pub front_as_long : {X : Type 0} (scratch : List X) (w h width height room : ℕ) → w ≡ width → h ≡ height → length scratch ≡ room → width * height ≤ room
    → w * h ≡ length (take (w * h) scratch)
front_as_long scratch w h width height room wide high long fits =
    let same : w * h ≡ width * height = λ i. wide i * high i in
    simp length-take (omega arith)

-- and the room is enough
pub room_for : {X : Type 0} (scratch : List X) (w h width height : ℕ) → w ≡ width → h ≡ height → width * height ≤ length scratch → w * h ≤ length scratch
room_for scratch w h width height wide high fits = subst (λ n. n ≤ length scratch) (λ i. sym wide i * sym high i) fits
