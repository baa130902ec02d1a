-- Where an allowed step writes, its rectangles fit their fields.
use Rattle.std.proofs.Common.{ℕ, ◌≡◌, ◌+◌, ◌≤◌, ◌<◌, ◌^◌, ◌&&◌, Bool, true, false, List, [], ◌∷◌, Option, Some, option_map, Ok, refl, ap, ◌∙◌, subst, arith}
use Rattle.std.specs.Prelude.{IfSome}
use Rattle.std.specs.FinMap.{get}
use Rattle.std.specs.List.{AllByRecursion, slice_get}
use Rattle.std.specs.Option.{ok_or}
use Rattle.std.proofs.lemmas.Bool.Decides.{nat_tests}
use Rattle.gfx_base.specs.declared.geometry.Point.{Point}
use Rattle.gfx_base.specs.declared.geometry.Rect.{Rect}
use Rattle.gfx_base.specs.Geometry.{IsPoint, IsRect, fit_all, lies_in, moved, sized, width_of, height_of}
use Rattle.gfx_base.specs.Results.{check}
use Rattle.gfx_base.proofs.ResultLemmas.{and_then_ok, check_ok}
use Rattle.gfx_script.specs.declared.error.ScriptKind.TheVariants as fault
use Rattle.gfx_script.specs.declared.held.Sides.{Sides}
use Rattle.gfx_script.specs.declared.picture.Picture.{Picture as Source}
use Rattle.gfx_script.specs.declared.step.Kind.{Kind}
use Rattle.gfx_script.specs.declared.step.Step.{Step}
use Rattle.gfx_script.specs.declared.step.Step.TheVariants.{Surface, Delete, Reset, Map, Fill, Copy, Keep, Show, Forget, Paint, Improve, Frame}
use Rattle.gfx_script.specs.Checks.{Held, held_after, rect_copied}
use Rattle.gfx_script.specs.Kinds.{as_kind}
use Rattle.gfx_script.specs.Scripted.{Script}
use Rattle.gfx_script.specs.Writes.{area, at_each, place_of, writes_by}
use Rattle.gfx_surface.specs.declared.TheConstants.{MOST_SIDE}
use Rattle.gfx_surface.specs.Picture.{Picture}
use Rattle.gfx_surface_map.specs.Surfaces.{Surfaces}
use Rattle.gfx_planner.specs.Bitmaps.{sides_in, bitmap_in, sides_kept}
use Rattle.gfx_planner.specs.TileSteps.{sends_tiles}
use Rattle.gfx_planner.specs.Server.{Server}
use Rattle.gfx_planner.specs.CanSend.{FitsAt}
use Rattle.gfx_planner.specs.Holds.{HoldsSurfaces, sides_of}
use Rattle.gfx_planner.specs.Allowed.{IsAllowed}
use Rattle.gfx_planner.proofs.BitmapSteps.{may_show}
use Rattle.gfx_planner.proofs.PaintSteps.{may_paint}
use Rattle.gfx_planner.proofs.Seen.{seen}
use Rattle.gfx_planner.proofs.SurfaceSteps.{ok_or_some}

first_holds : (a b : Bool) → (a && b) ≡ true → a ≡ true
first_holds true b e = refl
first_holds false b e = e

second_holds : (a b : Bool) → (a && b) ≡ true → b ≡ true
second_holds true b e = e
second_holds false b e = absurd cc

-- a rectangle that lies at a point on a surface
fits_at : (width height : ℕ) (rect : Rect) (point : Point) → width < 2 ^ 16 → height < 2 ^ 16 → IsPoint point → lies_in width height (moved rect point) ≡ true → IsRect (moved rect point)
fits_at width height rect point wide high is inside =
    let right : point.x + width_of rect ≤ width = grind (arith, nat_tests) in
    let bottom : point.y + height_of rect ≤ height = grind (arith, nat_tests) in
    record { left = is.x; top = is.y; right = omega arith; bottom = omega arith }

fits_at_each : (width height : ℕ) (rect : Rect) (points : List Point) → width < 2 ^ 16 → height < 2 ^ 16 → AllByRecursion IsPoint points → fit_all width height rect points ≡ true → AllByRecursion IsRect (at_each points rect)
fits_at_each width height rect [] wide high are fits = tt
fits_at_each width height rect (point ∷ points) wide high are fits = (
  fits_at width height rect point wide high are.0 (first_holds (lies_in width height (moved rect point)) (fit_all width height rect points) fits),
  fits_at_each width height rect points wide high are.1 (second_holds (lies_in width height (moved rect point)) (fit_all width height rect points) fits),
)

-- the sides of a surface fit their fields
narrow_surface : (held : Held) (surfaces : Surfaces) (id : ℕ) (surface : Picture) → HoldsSurfaces held.sides held.cells surfaces → get surfaces id ≡ Some surface → (surface.width < 2 ^ 16) × (surface.height < 2 ^ 16)
narrow_surface held surfaces id surface holds there =
    let narrow = subst (λ o. IfSome o (λ s. (s.width ≤ MOST_SIDE) × (s.height ≤ MOST_SIDE))) (holds.sides id ∙ ap (option_map sides_of) there) (holds.narrow id) in
    (omega (arith, narrow.0), omega (arith, narrow.1))

narrow_held : (held : Held) (surfaces : Surfaces) (id : ℕ) (sides : Sides) → HoldsSurfaces held.sides held.cells surfaces → get held.sides id ≡ Some sides → (sides.width < 2 ^ 16) × (sides.height < 2 ^ 16)
narrow_held held surfaces id sides holds there =
    let narrow = subst (λ o. IfSome o (λ s. (s.width ≤ MOST_SIDE) × (s.height ≤ MOST_SIDE))) there (holds.narrow id) in
    (omega (arith, narrow.0), omega (arith, narrow.1))

copied_fits : (held after : Held) (surfaces : Surfaces) (from to : ℕ) (rect : Rect) (points : List Point) → HoldsSurfaces held.sides held.cells surfaces → AllByRecursion IsPoint points → rect_copied held from to rect points ≡ Ok after
    → AllByRecursion IsRect (at_each points rect)
unfolding rect_copied
copied_fits held after surfaces from to rect points holds are checked =
    let first = and_then_ok (ok_or (get held.sides from) fault.SurfaceAbsent) _ after checked in
    let second = and_then_ok (ok_or (get held.sides to) fault.SurfaceAbsent) _ after first.2 in
    let third = and_then_ok (check fault.Outside (lies_in first.0.width first.0.height rect)) _ after second.2 in
    let fourth = and_then_ok (check fault.Outside (fit_all second.0.width second.0.height rect points)) _ after third.2 in
    let narrow = narrow_held held surfaces to second.0 holds (ok_or_some (get held.sides to) fault.SurfaceAbsent second.0 second.1) in
    fits_at_each second.0.width second.0.height rect points narrow.0 narrow.1 are (check_ok fault.Outside (fit_all second.0.width second.0.height rect points) fourth.1)

shown_fits : (kept : Option Sides) (to : ℕ) (points : List Point) (sides : Sides) → kept ≡ Some sides → AllByRecursion IsRect (at_each points (sized sides.width sides.height))
    → IfSome (option_map (λ (sides : Sides). area to (at_each points (sized sides.width sides.height))) kept) (λ written. AllByRecursion IsRect written.rects)
shown_fits kept to points sides is all = rw is all

painted_fits : (script : Script) (id number : ℕ) (at : Point) (o : Option Source) (picture : Source) → o ≡ Some picture → IsRect (place_of picture at)
    → IfSome (option_map (λ source. area id (place_of source at ∷ [])) o) (λ written. AllByRecursion IsRect written.rects)
painted_fits script id number at o picture is place = rw is (place, tt)

pub fitting : (script : Script) (server : Server) (kind : Option Kind) (step : Step) → IsAllowed script server (as_kind kind step) → sends_tiles script.thin kind step ≡ false
    → FitsAt script (sides_kept server.plan server.state.cache.slots) step
unfolding FitsAt writes_by held_after
fitting script server kind (Surface id width height format) allowed apart = (
  record { left = omega arith; top = omega arith; right = omega (arith, allowed.numbers.2); bottom = omega (arith, allowed.numbers.4) },
  tt,
)
fitting script server kind (Delete id) allowed apart = tt
fitting script server kind (Reset width height) allowed apart = tt
fitting script server kind (Map id x y) allowed apart = tt
fitting script server kind (Fill id colour rects) allowed apart = allowed.numbers.4
fitting script server kind (Copy from to rect points) allowed apart =
    copied_fits allowed.held allowed.after server.state.shown.surfaces from to rect points allowed.holds.surfaces allowed.numbers.5 allowed.checked
fitting script server kind (Keep id key rect) allowed apart = tt
fitting script server kind (Show key to points) allowed apart =
    let m = may_show script server allowed.held allowed.after key to points (seen script allowed.held server allowed.holds) allowed.checked in
    let narrow = narrow_surface allowed.held server.state.shown.surfaces to m.target allowed.holds.surfaces m.there in
    let kept : sides_kept server.plan server.state.cache.slots key ≡ Some (sides_in m.shows.entry) =
    ap (λ o. option_map sides_in (bitmap_in server.state.cache.slots o)) m.is ∙ ap (option_map sides_in) m.shows.there in
    shown_fits (sides_kept server.plan server.state.cache.slots key) to points (sides_in m.shows.entry) kept
    (fits_at_each m.target.width m.target.height (sized m.shows.entry.image.width m.shows.entry.image.height) points narrow.0 narrow.1 allowed.numbers.4 m.fits)
fitting script server kind (Forget key) allowed apart = tt
fitting script server kind (Paint id number at named glyph) allowed apart =
    let may = may_paint script server allowed.held allowed.after id number at named glyph (seen script allowed.held server allowed.holds) allowed.numbers.1 allowed.numbers.2 allowed.checked in
    painted_fits script id number at (slice_get script.pictures number) may.0.picture may.0.drawn may.0.place
fitting script server kind (Improve id) allowed apart = absurd cc
fitting script server kind Frame allowed apart = tt
