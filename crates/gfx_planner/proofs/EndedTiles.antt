-- Which tiles the changes of a step end, rectangle by rectangle.
use Rattle.std.proofs.Common.{◌≡◌, ℕ, zero, suc, ◌+◌, ◌<◌, ◌≤◌, false, List, [], ◌∷◌, drop, length, get_or, Option, Some, None, Ok, Err, option_map, refl, sym, ap, ◌∙◌, subst, arith}
use Rattle.std.specs.Prelude.{IfSome}
use Rattle.std.specs.FinMap.{FinMap}
use Rattle.std.specs.List.{AllByRecursion, slice_get}
use Rattle.std.specs.Ordering.{nat_cmp}
use Rattle.std.proofs.lemmas.List.{drop_more, drop_all}
use Rattle.gfx_base.specs.declared.format.Format.{Format}
use Rattle.gfx_base.specs.declared.geometry.Point.{Point}
use Rattle.gfx_base.specs.declared.geometry.Rect.{Rect}
use Rattle.gfx_base.specs.declared.pixel.Pixel.{Pixel}
use Rattle.gfx_base.specs.Geometry.{IsRect, moved, sized}
use Rattle.gfx_base.specs.declared.refusal.Refusal.{Refusal}
use Rattle.gfx_bitmap_cache.specs.Slots.{Cached, Entry, Image, shown}
use Rattle.gfx_prog_live.proofs.Ending.{ended_one_by_one}
use Rattle.gfx_prog_live.specs.Live.{Passes, ended_in, without_surface}
use Rattle.gfx_script.specs.declared.held.Sides.{Sides}
use Rattle.gfx_script.specs.declared.picture.Picture.{Picture as Source}
use Rattle.gfx_script.specs.declared.step.Kind.{Kind}
use Rattle.gfx_script.specs.declared.step.Step.{Step}
use Rattle.gfx_script.specs.declared.step.Step.TheVariants.{Surface, Delete, Fill, Copy, Show, Paint, Improve}
use Rattle.gfx_script.specs.Scripted.{Script}
use Rattle.gfx_script.specs.Writes.{Area, area, at_each, place_of, writes_by}
use Rattle.gfx_slot_plan.specs.Plan.{Plan, slot_of}
use Rattle.gfx_surface_map.specs.Surfaces.{Surfaces}
use Rattle.gfx_script.specs.Ways.{goes_by}
use Rattle.gfx_planner.proofs.Ways.{live_whole}
use Rattle.gfx_planner.specs.Bitmaps.{sides_in, bitmap_in, sides_kept}
use Rattle.gfx_planner.specs.Slots.{PlanFitsCache}
use Rattle.gfx_planner.specs.TileSteps.{goes_in_passes, sends_tiles, goes_as_video, is_video_paint}
use Rattle.gfx_planner.specs.Passes.{ended_by, passes_as}
use Rattle.gfx_planner.specs.CanSend.{FitsAt}
use Rattle.gfx_planner.proofs.Payloads.{sides}
use Rattle.gfx_planner.proofs.Slots.{fits_cache-shows, shown-ok}

-- after a change in one rectangle
abbrev pub ended_at : Passes → ℕ → Rect → Passes
ended_at passes id rect = record passes { live = ended_in passes.live (area id (rect ∷ [])) }

-- a change in one rectangle and then in others
pub one_ended : (passes : Passes) (id : ℕ) (rect : Rect) (rects : List Rect) → ended_by (ended_at passes id rect) (Some (area id rects)) ≡ ended_by passes (Some (area id (rect ∷ rects)))
unfolding ended_by
one_ended passes id rect rects =
    ap (λ l. record passes { live = l }) (sym (ended_one_by_one (ended_in passes.live (area id (rect ∷ []))) id rects) ∙ ended_one_by_one passes.live id (rect ∷ rects))

-- a change in no rectangle
nothing_ended : (passes : Passes) (id : ℕ) → ended_by passes (Some (area id [])) ≡ passes
unfolding ended_by
nothing_ended passes id = ap (λ l. record passes { live = l }) (sym (ended_one_by_one passes.live id []))

-- the rectangles from one on, one after another
pub next_ended : (first passes new : Passes) (id : ℕ) (rects : List Rect) (i : ℕ) (none : Rect) → i < length rects → new ≡ ended_at passes id (get_or rects i none)
    → ended_by passes (Some (area id (drop i rects))) ≡ ended_by first (Some (area id rects)) → ended_by new (Some (area id (drop (i + 1) rects))) ≡ ended_by first (Some (area id rects))
next_ended first passes new id rects i none below ends so_far =
    ap (λ p. ended_by p (Some (area id (drop (i + 1) rects)))) ends ∙ one_ended passes id (get_or rects i none) (drop (i + 1) rects)
    ∙ ap (λ z. ended_by passes (Some (area id z))) (sym (drop_more rects i none below)) ∙ so_far

pub all_ended : (first passes : Passes) (id : ℕ) (rects : List Rect) (i : ℕ) → length rects ≤ i → ended_by passes (Some (area id (drop i rects))) ≡ ended_by first (Some (area id rects))
    → passes ≡ ended_by first (Some (area id rects))
all_ended first passes id rects i past so_far = sym (nothing_ended passes id) ∙ ap (λ z. ended_by passes (Some (area id z))) (sym (drop_all i rects past)) ∙ so_far

-- the same at points
pub next_ended_at : (first passes new : Passes) (id : ℕ) (rect placed : Rect) (points : List Point) (i : ℕ) (none : Point) → i < length points → placed ≡ moved rect (get_or points i none) → new ≡ ended_at passes id placed
    → ended_by passes (Some (area id (at_each (drop i points) rect))) ≡ ended_by first (Some (area id (at_each points rect)))
    → ended_by new (Some (area id (at_each (drop (i + 1) points) rect))) ≡ ended_by first (Some (area id (at_each points rect)))
next_ended_at first passes new id rect placed points i none below place ends so_far =
    let rest = at_each (drop (i + 1) points) rect in
    ap (λ p. ended_by p (Some (area id rest))) ends ∙ one_ended passes id placed rest
    ∙ ap (λ r. ended_by passes (Some (area id (r ∷ rest)))) place
    ∙ ap (λ z. ended_by passes (Some (area id (at_each z rect)))) (sym (drop_more points i none below)) ∙ so_far

pub all_ended_at : (first passes : Passes) (id : ℕ) (rect : Rect) (points : List Point) (i : ℕ) → length points ≤ i
    → ended_by passes (Some (area id (at_each (drop i points) rect))) ≡ ended_by first (Some (area id (at_each points rect))) → passes ≡ ended_by first (Some (area id (at_each points rect)))
all_ended_at first passes id rect points i past so_far =
    sym (nothing_ended passes id) ∙ ap (λ z. ended_by passes (Some (area id (at_each z rect)))) (sym (drop_all i points past)) ∙ so_far

-- where each place fits its fields, so does that at one point
pub fits_at_point : (rect : Rect) (points : List Point) (i : ℕ) (none : Point) → AllByRecursion IsRect (at_each points rect) → i < length points → IsRect (moved rect (get_or points i none))
fits_at_point rect [] i none all below = absurd (omega (arith, below))
fits_at_point rect (p ∷ ps) zero none all below = all.0
fits_at_point rect (p ∷ ps) (suc i) none all below = fits_at_point rect ps i none all.1 (omega (arith, below))

-- a picture that isn't there is painted nowhere
pub no_source_ended : (passes : Passes) (id : ℕ) (source : Option Source) (at : Point) → option_map sides source ≡ None → passes ≡ ended_by passes (option_map (λ source. area id (place_of source at ∷ [])) source)
unfolding ended_by
no_source_ended passes id None at none = refl
no_source_ended passes id (Some picture) at none = absurd cc

-- a picture that is there has its place
pub source_fits : (source : Option Source) (at : Point) (width height : ℕ) → option_map sides source ≡ Some (width, height) → IfSome source (λ source. IsRect (place_of source at)) → IsRect (moved (sized width height) at)
source_fits None at width height sized fits = absurd cc
source_fits (Some picture) at width height sized_so fits =
    let same : sides picture ≡ (width, height) = cc in
    subst (λ (p : ℕ × ℕ). IsRect (moved (sized p.0 p.1) at)) same fits

pub source_ended : (passes new : Passes) (id : ℕ) (source : Option Source) (at : Point) (width height : ℕ) (rect : Rect) → option_map sides source ≡ Some (width, height) → rect ≡ moved (sized width height) at
    → new ≡ ended_at passes id rect → new ≡ ended_by passes (option_map (λ source. area id (place_of source at ∷ [])) source)
unfolding ended_by
source_ended passes new id None at width height rect sized is ends = absurd cc
source_ended passes new id (Some picture) at width height rect sized_so is ends =
    let same : sides picture ≡ (width, height) = cc in
    ends ∙ ap (ended_at passes id) (is ∙ ap (λ (p : ℕ × ℕ). moved (sized p.0 p.1) at) (sym same))

-- bitmaps that are kept ---------------------------------------------------------------------------------

pub no_slot_ended : (passes : Passes) (kept : Plan) (slots : FinMap nat_cmp Entry) (key : ℕ) (place : Sides → Area) → slot_of key kept.places ≡ None → passes ≡ ended_by passes (option_map place (sides_kept kept slots key))
unfolding ended_by
no_slot_ended passes kept slots key place none = sym (ap (λ o. ended_by passes (option_map place (option_map sides_in (bitmap_in slots o)))) none)

pub never_empty : {X : Type 0} (kept : Plan) (cache : Cached) (key slot : ℕ) (r : Refusal) → PlanFitsCache kept cache → slot_of key kept.places ≡ Some slot → shown cache slot ≡ Err r → X
never_empty kept cache key slot r fits is refused = let both : Ok (fits_cache-shows kept cache key slot fits is).entry.image ≡ Err r = sym (shown-ok cache key slot (fits_cache-shows kept cache key slot fits is)) ∙ refused in absurd cc

pub sides_shown : (kept : Plan) (cache : Cached) (key slot : ℕ) (image : Image) → PlanFitsCache kept cache → slot_of key kept.places ≡ Some slot → shown cache slot ≡ Ok image
    → sides_kept kept cache.slots key ≡ Some record { width = image.width; height = image.height }
sides_shown kept cache key slot image fits is shows =
    let at = fits_cache-shows kept cache key slot fits is in
    let both : Ok at.entry.image ≡ Ok image = sym (shown-ok cache key slot at) ∙ shows in
    let same : at.entry.image ≡ image = cc in
    ap (λ o. option_map sides_in (bitmap_in cache.slots o)) is ∙ ap (option_map sides_in) at.there ∙ ap (λ (z : Image). Some record { width = z.width; height = z.height }) same

-- the steps ---------------------------------------------------------------------------------------------

module _ (script : Script) (sides_of : ℕ → Option Sides) (surfaces : Surfaces) (passes new : Passes) (kind : Option Kind) (step : Step) where
  pub delete_touched : (id : ℕ) → step ≡ Delete id → new ≡ record passes { live = without_surface passes.live id } → new ≡ passes_as script sides_of surfaces passes kind step
  unfolding passes_as
  delete_touched id is ends = rw is ends

  pub surface_touched : (id width height : ℕ) (format : Format) (rect : Rect) → step ≡ Surface id width height format → rect ≡ sized width height → new ≡ ended_at passes id rect → new ≡ passes_as script sides_of surfaces passes kind step
  unfolding passes_as ended_by writes_by
  surface_touched id width height format rect is place ends = rw is (ends ∙ ap (ended_at passes id) place)

  pub fill_touched : (id : ℕ) (colour : Pixel) (rects whole : List Rect) → step ≡ Fill id colour rects → whole ≡ rects → new ≡ ended_by passes (Some (area id whole)) → new ≡ passes_as script sides_of surfaces passes kind step
  unfolding passes_as writes_by
  fill_touched id colour rects whole is same ends = rw is (ends ∙ ap (λ z. ended_by passes (Some (area id z))) same)

  pub copy_touched : (from to : ℕ) (rect : Rect) (points whole : List Point) → step ≡ Copy from to rect points → whole ≡ points → new ≡ ended_by passes (Some (area to (at_each whole rect))) → new ≡ passes_as script sides_of surfaces passes kind step
  unfolding passes_as writes_by
  copy_touched from to rect points whole is same ends = rw is (ends ∙ ap (λ z. ended_by passes (Some (area to (at_each z rect)))) same)

  pub show_touched : (key to : ℕ) (points whole : List Point) → step ≡ Show key to points → whole ≡ points
      → new ≡ ended_by passes (option_map (λ (sides : Sides). area to (at_each whole (sized sides.width sides.height))) (sides_of key)) → new ≡ passes_as script sides_of surfaces passes kind step
  unfolding passes_as writes_by
  show_touched key to points whole is same ends = rw is (ends ∙ ap (λ z. ended_by passes (option_map (λ (sides : Sides). area to (at_each z (sized sides.width sides.height))) (sides_of key))) same)

  pub paint_touched : (id number : ℕ) (at : Point) (named : Option Kind) (glyph : Option ℕ) → step ≡ Paint id number at named glyph → sends_tiles script.thin kind step ≡ false → is_video_paint script.thin kind step ≡ false
      → new ≡ ended_by passes (option_map (λ source. area id (place_of source at ∷ [])) (slice_get script.pictures number)) → new ≡ passes_as script sides_of surfaces passes kind step
  unfolding passes_as writes_by
  paint_touched id number at named glyph is apart still ends =
      let whole : goes_in_passes (goes_by script.thin kind) ≡ false = rw is at apart in
      let other : goes_as_video (goes_by script.thin kind) ≡ false = rw is at still in
      rw is (ends ∙ sym (live_whole script passes (goes_by script.thin kind) id (slice_get script.pictures number) at _ whole other))

-- a step of another word ends none
pub other_touched : (script : Script) (sides_of : ℕ → Option Sides) (surfaces : Surfaces) (passes : Passes) (kind : Option Kind) (step : Step)
    → ((id width height : ℕ) (format : Format) → step ≡ Surface id width height format → ⊥) → ((id : ℕ) → step ≡ Delete id → ⊥)
    → ((id : ℕ) (colour : Pixel) (rects : List Rect) → step ≡ Fill id colour rects → ⊥) → ((from to : ℕ) (rect : Rect) (points : List Point) → step ≡ Copy from to rect points → ⊥)
    → ((key to : ℕ) (points : List Point) → step ≡ Show key to points → ⊥) → ((id number : ℕ) (at : Point) (named : Option Kind) (glyph : Option ℕ) → step ≡ Paint id number at named glyph → ⊥)
    → sends_tiles script.thin kind step ≡ false → passes ≡ passes_as script sides_of surfaces passes kind step
unfolding passes_as ended_by writes_by
other_touched script sides_of surfaces passes kind (Surface id width height format) surface delete fill copy show paint apart = absurd (surface id width height format refl)
other_touched script sides_of surfaces passes kind (Delete id) surface delete fill copy show paint apart = absurd (delete id refl)
other_touched script sides_of surfaces passes kind (Fill id colour rects) surface delete fill copy show paint apart = absurd (fill id colour rects refl)
other_touched script sides_of surfaces passes kind (Copy from to rect points) surface delete fill copy show paint apart = absurd (copy from to rect points refl)
other_touched script sides_of surfaces passes kind (Show key to points) surface delete fill copy show paint apart = absurd (show key to points refl)
other_touched script sides_of surfaces passes kind (Paint id number at named glyph) surface delete fill copy show paint apart = absurd (paint id number at named glyph refl)
other_touched script sides_of surfaces passes kind (Improve id) surface delete fill copy show paint apart = absurd cc
other_touched script sides_of surfaces passes kind step surface delete fill copy show paint apart = refl

-- where the places of a step fit their fields, so do those of its bitmaps and pictures
pub copy_fits : (script : Script) (sides_of : ℕ → Option Sides) (step : Step) (from to : ℕ) (rect : Rect) (points whole : List Point) → step ≡ Copy from to rect points → whole ≡ points → FitsAt script sides_of step
    → AllByRecursion IsRect (at_each whole rect)
unfolding FitsAt writes_by
copy_fits script sides_of step from to rect points whole is same fits = rw same (rw is at fits)

pub show_fits : (script : Script) (sides_of : ℕ → Option Sides) (step : Step) (key to : ℕ) (points whole : List Point) → step ≡ Show key to points → whole ≡ points → FitsAt script sides_of step
    → IfSome (sides_of key) (λ sides. AllByRecursion IsRect (at_each whole (sized sides.width sides.height)))
unfolding FitsAt writes_by
show_fits script sides_of step key to points whole is same fits = rw same (by (sides_of key) (rw is at fits))
  where
    by : (o : Option Sides) → IfSome (option_map (λ (sides : Sides). area to (at_each points (sized sides.width sides.height))) o) (λ written. AllByRecursion IsRect written.rects)
        → IfSome o (λ sides. AllByRecursion IsRect (at_each points (sized sides.width sides.height)))
    by None all = tt
    by (Some sides) all = all

pub paint_fits : (script : Script) (sides_of : ℕ → Option Sides) (step : Step) (id number : ℕ) (at : Point) (named : Option Kind) (glyph : Option ℕ) → step ≡ Paint id number at named glyph → FitsAt script sides_of step
    → IfSome (slice_get script.pictures number) (λ source. IsRect (place_of source at))
unfolding FitsAt writes_by
paint_fits script sides_of step id number at named glyph is fits = by (slice_get script.pictures number) (rw is at fits)
  where
    by : (o : Option Source) → IfSome (option_map (λ source. area id (place_of source at ∷ [])) o) (λ written. AllByRecursion IsRect written.rects) → IfSome o (λ source. IsRect (place_of source at))
    by None all = tt
    by (Some source) all = all.0
