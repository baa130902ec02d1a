-- A step changes no pixel outside of where it writes.
use Rattle.std.proofs.Common.{◌≡◌, ◌∙◌, ℕ, ◌<◌, ◌+◌, ◌-◌, Bool, true, false, List, [], ◌∷◌, Option, Some, None, option_map, Result, Ok, Err, refl, sym, ap, subst, arith, if◌then◌else◌}
use Rattle.std.specs.FinMap.{get}
use Rattle.std.specs.List.{slice_get}
use Rattle.std.specs.Option.{ok_or}
use Rattle.std.specs.Result.{result_ok}
use Rattle.std.proofs.lemmas.Bool.Decides.{nat_tests}
use Rattle.gfx_base.specs.Geometry.{holds, moved, sized}
use Rattle.gfx_base.specs.declared.geometry.Point.{Point}
use Rattle.gfx_base.specs.declared.geometry.Rect.{Rect}
use Rattle.gfx_base.specs.declared.pixel.Pixel.{Pixel}
use Rattle.gfx_base.specs.declared.refusal.Refusal.{Refusal}
use Rattle.gfx_base.specs.Results.{and_then}
use Rattle.gfx_base.proofs.ResultLemmas.{and_then_at}
use Rattle.gfx_bitmap_cache.specs.Slots.{Entry}
use Rattle.gfx_script.specs.Checks.{Held}
use Rattle.gfx_script.specs.Kinds.{is_plain_write}
use Rattle.gfx_script.specs.Scripted.{Script}
use Rattle.gfx_script.specs.Stock.{Stock, bitmap_sides}
use Rattle.gfx_script.specs.Writes.{Area, area, at_each, paints_plainly, place_of, writes, writes_by, writes_plainly}
use Rattle.gfx_script.specs.declared.error.ScriptKind.TheVariants.{KeyAbsent}
use Rattle.gfx_script.specs.declared.picture.Picture.{Picture as Source}
use Rattle.gfx_script.specs.declared.step.Kind.{Kind}
use Rattle.gfx_script.specs.declared.step.Step.{Step}
use Rattle.gfx_script.specs.declared.step.Step.TheVariants.{Surface, Delete, Reset, Map, Fill, Copy, Keep, Show, Forget, Paint, Improve, Frame}
use Rattle.gfx_slot_plan.specs.declared.kept.Kept.{Kept}
use Rattle.gfx_slot_plan.specs.Plan.{Plan, slot_of}
use Rattle.gfx_surface.specs.Picture.{Picture, shade, in_rect, filled, copied, overlaid, pixel_at}
use Rattle.gfx_surface.proofs.PictureLemmas.{filled-width, filled-height, copied-width, copied-height, overlaid-width, overlaid-height}
use Rattle.gfx_surface_map.specs.Shown.{copied_to, stamped}
use Rattle.gfx_surface_map.specs.Surfaces.{painted}
use Rattle.gfx_planner.specs.Bitmaps.{sides_in, bitmap_in, sides_kept}
use Rattle.gfx_planner.specs.Pixels.{opaque_in, pixels_in}
use Rattle.gfx_planner.specs.Wanted.{Wanted}
use Rattle.gfx_planner.specs.SurfaceEffects.{drawing, with_copy}
use Rattle.gfx_planner.specs.BitmapEffects.{with_bitmap, with_stamps}
use Rattle.gfx_planner.specs.PaintEffects.{with_painting, with_pixels, with_video}
use Rattle.gfx_planner.specs.Want.{wanted_as}
use Rattle.gfx_planner.specs.Server.{Server}
use Rattle.gfx_planner.specs.Agree.{Agree}
use Rattle.gfx_planner.specs.Holds.{Holds}
use Rattle.gfx_planner.specs.Within.{ChangesWithin, StepsWriteWithin}
use Rattle.gfx_script.specs.Ways.{goes_by}
use Rattle.gfx_script.specs.declared.way.Way.{Way}
use Rattle.gfx_script.specs.declared.way.Way.TheVariants.{Uncompressed, ByLayer, InPasses, Video}
use Rattle.gfx_planner.proofs.Alike.{AlikeAt, AreBeside, alike_both, alike_same, never, outside_drawn, within_drawn, within_insert, within_remove, within_same}
use Rattle.gfx_planner.proofs.TilesWithin.{within_improved, within_tiles}
use Rattle.gfx_planner.proofs.Slots.{fits_cache-shows, sides_fit-shows}
use Rattle.gfx_video_paint.specs.Shown.{shown_as_video}
use Rattle.gfx_planner.proofs.VideoSteps.{video_alike}

-- pictures ------------------------------------------------------------------------------------------

filled_alike : (x y : ℕ) (picture : Picture) (rect : Rect) (colour : Pixel) → holds rect x y ≡ false → AlikeAt x y picture (filled picture rect colour)
unfolding filled
filled_alike x y picture rect colour outside = record {
  width = filled-width picture rect colour;
  height = filled-height picture rect colour;
  pixel = λ column row. outside_drawn picture (holds rect) (λ a b. shade picture.format colour) x y column row outside;
}

copied_alike : (x y : ℕ) (source picture : Picture) (rect : Rect) (to : Point) → holds (moved rect to) x y ≡ false → AlikeAt x y picture (copied source rect to picture)
unfolding copied
copied_alike x y source picture rect to outside = record {
  width = copied-width source rect to picture;
  height = copied-height source rect to picture;
  pixel = λ column row. outside_drawn picture (holds (moved rect to)) (λ a b. shade picture.format (pixel_at source (a - to.x + rect.left) (b - to.y + rect.top))) x y column row outside;
}

overlaid_alike : (x y : ℕ) (picture : Picture) (rect : Rect) (pixels : List Pixel) → holds rect x y ≡ false → AlikeAt x y picture (overlaid picture rect pixels)
unfolding overlaid
overlaid_alike x y picture rect pixels outside = record {
  width = overlaid-width picture rect pixels;
  height = overlaid-height picture rect pixels;
  pixel = λ column row. outside_drawn picture (holds rect) (λ a b. shade picture.format (in_rect rect pixels a b)) x y column row outside;
}

painted_alike : (x y : ℕ) (picture : Picture) (rects : List Rect) (colour : Pixel) → AreBeside rects x y → AlikeAt x y picture (painted picture rects colour)
painted_alike x y picture [] colour beside = alike_same x y picture
painted_alike x y picture (rect ∷ rects) colour beside =
    alike_both x y picture (filled picture rect colour) _ (filled_alike x y picture rect colour beside.0) (painted_alike x y (filled picture rect colour) rects colour beside.1)

copied_to_alike : (x y : ℕ) (source : Picture) (rect : Rect) (points : List Point) (picture : Picture) → AreBeside (at_each points rect) x y → AlikeAt x y picture (copied_to source rect points picture)
copied_to_alike x y source rect [] picture beside = alike_same x y picture
copied_to_alike x y source rect (point ∷ points) picture beside =
    alike_both x y picture (copied source rect point picture) _ (copied_alike x y source picture rect point beside.0) (copied_to_alike x y source rect points (copied source rect point picture) beside.1)

stamped_alike : (x y : ℕ) (rect : Rect) (pixels : List Pixel) (points : List Point) (picture : Picture) → AreBeside (at_each points rect) x y → AlikeAt x y picture (stamped rect pixels points picture)
stamped_alike x y rect pixels [] picture beside = alike_same x y picture
stamped_alike x y rect pixels (point ∷ points) picture beside =
    alike_both x y picture (overlaid picture (moved rect point) pixels) _ (overlaid_alike x y picture (moved rect point) pixels beside.0)
    (stamped_alike x y rect pixels points (overlaid picture (moved rect point) pixels) beside.1)

-- steps ---------------------------------------------------------------------------------------------

-- every pixel of a surface is in the rectangle of its sides
holds_whole : (width height x y : ℕ) → x < width → y < height → holds (sized width height) x y ≡ true
holds_whole width height x y column row = grind (arith, nat_tests)

within_copy : (wanted : Wanted) (o : Option Picture) (to : ℕ) (rect : Rect) (points : List Point)
    → ChangesWithin (Some (area to (at_each points rect))) wanted.shown.surfaces (with_copy wanted o to rect points).shown.surfaces
unfolding with_copy
within_copy wanted None to rect points = within_same _ _ _ refl
within_copy wanted (Some source) to rect points =
    within_drawn wanted.shown to (at_each points rect) (copied_to source rect points) (λ x y picture beside. copied_to_alike x y source rect points picture beside)

within_pixels : (wanted : Wanted) (o : Option Source) (pixels : Source → List Pixel) (id : ℕ) (at : Point)
    → ChangesWithin (option_map (λ source. area id (place_of source at ∷ [])) o) wanted.shown.surfaces (with_pixels wanted o pixels id at).shown.surfaces
unfolding with_pixels
within_pixels wanted None pixels id at = within_same _ _ _ refl
within_pixels wanted (Some source) pixels id at =
    within_drawn wanted.shown id (place_of source at ∷ []) (λ surface. overlaid surface (place_of source at) (pixels source))
    (λ x y picture beside. overlaid_alike x y picture (place_of source at) (pixels source) beside.0)

within_video : (script : Script) (wanted : Wanted) (o : Option Source) (id : ℕ) (at : Point)
    → ChangesWithin (option_map (λ source. area id (place_of source at ∷ [])) o) wanted.shown.surfaces (with_video script wanted o id at).shown.surfaces
unfolding with_video
within_video script wanted None id at = within_same _ _ _ refl
within_video script wanted (Some source) id at =
    within_drawn wanted.shown id (place_of source at ∷ []) (shown_as_video script.setting source (place_of source at))
    (λ x y picture beside. video_alike x y script.setting source (place_of source at) picture beside.0)

within_paint : (script : Script) (wanted : Wanted) (way : Option Way) (o : Option Source) (id : ℕ) (at : Point)
    → ChangesWithin (option_map (λ source. area id (place_of source at ∷ [])) o) wanted.shown.surfaces (with_painting script wanted way o id at).shown.surfaces
unfolding with_painting
within_paint script wanted None o id at = within_same _ _ _ refl
within_paint script wanted (Some Uncompressed) o id at = within_pixels wanted o pixels_in id at
within_paint script wanted (Some (ByLayer layer)) o id at = within_pixels wanted o opaque_in id at
within_paint script wanted (Some InPasses) o id at = within_tiles script wanted o id at
within_paint script wanted (Some Video) o id at = within_video script wanted o id at

within_keep : (wanted : Wanted) (o : Option Picture) (found : Result (Plan × Kept) Refusal) (key : ℕ) (rect : Rect)
    → ChangesWithin None wanted.shown.surfaces (with_bitmap wanted o found key rect).shown.surfaces
unfolding with_bitmap
within_keep wanted None found key rect = within_same _ _ _ refl
within_keep wanted (Some picture) (Err r) key rect = within_same _ _ _ refl
within_keep wanted (Some picture) (Ok found) key rect = within_same _ _ _ refl

-- the sides that a script's checks hold of a key's bitmap are those that it has
kept_sides : (stock : Stock) (key slot : ℕ) (e : Entry) → slot_of key stock.plan.places ≡ Some slot → get stock.sides slot ≡ Some (sides_in e) → bitmap_sides stock key ≡ Ok (sides_in e)
unfolding bitmap_sides
kept_sides stock key slot e some there =
    and_then_at (ok_or (slot_of key stock.plan.places) KeyAbsent) slot (λ s. ok_or (get stock.sides s) KeyAbsent) (ap (λ o. ok_or o KeyAbsent) some) ∙ ap (λ o. ok_or o KeyAbsent) there

within_stamps : (wanted : Wanted) (written : Option Area) (o : Option Entry) (to : ℕ) (points : List Point)
    → ((e : Entry) → o ≡ Some e → written ≡ Some (area to (at_each points (sized e.image.width e.image.height))))
    → ChangesWithin written wanted.shown.surfaces (with_stamps wanted o to points).shown.surfaces
unfolding with_stamps
within_stamps wanted written None to points is = within_same written _ _ refl
within_stamps wanted written (Some e) to points is =
    subst (λ w. ChangesWithin w wanted.shown.surfaces (drawing wanted to (stamped (sized e.image.width e.image.height) e.image.pixels points)).shown.surfaces) (sym (is e refl))
    (within_drawn wanted.shown to (at_each points (sized e.image.width e.image.height)) (stamped (sized e.image.width e.image.height) e.image.pixels points)
    (λ x y picture beside. stamped_alike x y (sized e.image.width e.image.height) e.image.pixels points picture beside))

-- a key that has no slot has no sides
no_sides : (stock : Stock) (key : ℕ) → slot_of key stock.plan.places ≡ None → result_ok (bitmap_sides stock key) ≡ None
unfolding bitmap_sides and_then
no_sides stock key none = rw none refl

-- the sides of a bitmap that is kept are those that a script's checks hold of it
sides_same : (held : Held) (script : Script) (server : Server) (wanted : Wanted) (key : ℕ) → Holds script held server → Agree server wanted
    → sides_kept wanted.plan wanted.slots key ≡ result_ok (bitmap_sides held.stock key)
sides_same held script server wanted key tied agree = by (slot_of key wanted.plan.places) refl
  where
    plan_is : wanted.plan ≡ held.stock.plan
    plan_is = sym agree.plan ∙ sym tied.bitmaps.same

    held_slot : (o : Option ℕ) → slot_of key wanted.plan.places ≡ o → slot_of key held.stock.plan.places ≡ o
    held_slot o is = ap (λ (p : Plan). slot_of key p.places) (sym plan_is) ∙ is

    by : (o : Option ℕ) → slot_of key wanted.plan.places ≡ o → option_map sides_in (bitmap_in wanted.slots o) ≡ result_ok (bitmap_sides held.stock key)
    by None none = sym (no_sides held.stock key (held_slot None none))
    by (Some slot) some =
        let here : slot_of key server.plan.places ≡ Some slot = ap (λ (p : Plan). slot_of key p.places) agree.plan ∙ some in
        let shows = fits_cache-shows server.plan server.state.cache key slot tied.bitmaps.fits_cache here in
        let sides = sides_fit-shows server.plan server.state.cache held.stock.sides key slot tied.bitmaps.fits_cache here tied.bitmaps.sides_fit shows in
        let kept : bitmap_sides held.stock key ≡ Ok (sides_in shows.entry) = kept_sides held.stock key slot shows.entry (held_slot (Some slot) some) sides in
        ap (option_map sides_in) (ap (λ z. get z slot) (sym agree.slots) ∙ shows.there) ∙ sym (ap result_ok kept)

-- where a step writes by the bitmaps that are kept is where it writes by the checks
pub areas_same : (held : Held) (script : Script) (server : Server) (wanted : Wanted) (step : Step) → Holds script held server → Agree server wanted
    → writes_by script (sides_kept wanted.plan wanted.slots) step ≡ writes script held.stock step
unfolding writes_by
areas_same held script server wanted (Show key to points) tied agree = ap (option_map (λ sides. area to (at_each points (sized sides.width sides.height)))) (sides_same held script server wanted key tied agree)
areas_same held script server wanted step tied agree = refl

-- where a bitmap that is shown is written
shown_area : (held : Held) (script : Script) (server : Server) (wanted : Wanted) (key to : ℕ) (points : List Point) → Holds script held server → Agree server wanted
    → (e : Entry) → bitmap_in wanted.slots (slot_of key wanted.plan.places) ≡ Some e
    → option_map (λ sides. area to (at_each points (sized sides.width sides.height))) (result_ok (bitmap_sides held.stock key)) ≡ Some (area to (at_each points (sized e.image.width e.image.height)))
shown_area held script server wanted key to points tied agree e found =
    ap (option_map (λ sides. area to (at_each points (sized sides.width sides.height)))) (sym (sides_same held script server wanted key tied agree) ∙ ap (option_map sides_in) found)

pub step_within : (script : Script) (held : Held) (server : Server) (wanted : Wanted) (kind : Option Kind) (step : Step) → Holds script held server → Agree server wanted
    → ChangesWithin (writes script held.stock step) wanted.shown.surfaces (wanted_as script wanted kind step).shown.surfaces
unfolding writes_by wanted_as
step_within script held server wanted kind (Surface id width height format) tied agree =
    within_insert _ wanted.shown.surfaces id _ (λ x y before was column row outside. never (holds (sized width height) x y) (holds_whole width height x y column row) (outside refl).0)
step_within script held server wanted kind (Delete id) tied agree = within_remove None wanted.shown.surfaces id
step_within script held server wanted kind (Reset width height) tied agree = within_same None _ _ refl
step_within script held server wanted kind (Map id x y) tied agree = within_same None _ _ refl
step_within script held server wanted kind (Fill id colour rects) tied agree =
    within_drawn wanted.shown id rects (λ picture. painted picture rects colour) (λ x y picture beside. painted_alike x y picture rects colour beside)
step_within script held server wanted kind (Copy from to rect points) tied agree = within_copy wanted (get wanted.shown.surfaces from) to rect points
step_within script held server wanted kind (Keep id key rect) tied agree = within_keep wanted _ _ key rect
step_within script held server wanted kind (Show key to points) tied agree =
    within_stamps wanted _ (bitmap_in wanted.slots (slot_of key wanted.plan.places)) to points (shown_area held script server wanted key to points tied agree)
step_within script held server wanted kind (Forget key) tied agree = within_same None _ _ refl
step_within script held server wanted kind (Paint id picture at named glyph) tied agree =
    within_paint script wanted (goes_by script.thin kind) (slice_get script.pictures picture) id at
step_within script held server wanted kind (Improve id) tied agree = within_improved script held server wanted (get wanted.shown.surfaces id) id tied agree
step_within script held server wanted kind Frame tied agree = within_same None _ _ refl

-- a paint that is a plain write
plain_paint : (b : Bool) (source : Option Source) (id : ℕ) (at : Point) (plain : Area) → ◌≡◌ {A = Option Area} (if b then option_map (λ source. area id (place_of source at ∷ [])) source else None) (Some plain)
    → option_map (λ source. area id (place_of source at ∷ [])) source ≡ Some plain
plain_paint true source id at plain is = is
plain_paint false source id at plain is = absurd cc

plain_is_written : (script : Script) (stock : Stock) (kind : Option Kind) (step : Step) (plain : Area) → writes_plainly script kind step ≡ Some plain → writes script stock step ≡ Some plain
unfolding writes_by writes_plainly paints_plainly
plain_is_written script stock kind (Fill id colour rects) plain is = is
plain_is_written script stock None (Paint id picture at named glyph) plain is = absurd cc
plain_is_written script stock (Some one) (Paint id picture at named glyph) plain is = plain_paint (is_plain_write one) (slice_get script.pictures picture) id at plain is
plain_is_written script stock kind (Surface id width height format) plain is = absurd cc
plain_is_written script stock kind (Delete id) plain is = absurd cc
plain_is_written script stock kind (Reset width height) plain is = absurd cc
plain_is_written script stock kind (Map id x y) plain is = absurd cc
plain_is_written script stock kind (Copy from to rect points) plain is = absurd cc
plain_is_written script stock kind (Keep id key rect) plain is = absurd cc
plain_is_written script stock kind (Show key to points) plain is = absurd cc
plain_is_written script stock kind (Forget key) plain is = absurd cc
plain_is_written script stock kind (Improve id) plain is = absurd cc
plain_is_written script stock kind Frame plain is = absurd cc

-- the promise
pub steps_write_within : StepsWriteWithin
steps_write_within script held server wanted one tied agree =
    (step_within script held server wanted one.kind one.step tied agree, λ plain is. plain_is_written script held.stock one.kind one.step plain is)
