-- The surfaces that are wanted are pictures.
use Rattle.std.proofs.Common.{◌≡◌, ◌≢◌, ◌⊎◌, ◌∙◌, ◌&&◌, ◌-◌, ◌*◌, ℕ, Bool, true, false, cond, List, [], ◌∷◌, ◌++◌, fold, Option, Some, None, Result, Ok, Err, inl, inr, refl, sym, subst}
use Rattle.std.specs.Cmp.{nat_cmp_total}
use Rattle.std.specs.FinMap.{empty, get, get-empty, get-remove, insert, remove}
use Rattle.std.specs.List.{slice_get}
use Rattle.std.specs.Ordering.{eq_by_cmp, nat_cmp}
use Rattle.std.proofs.lemmas.Bool.{cases_eq}
use Rattle.gfx_base.specs.declared.geometry.Point.{Point}
use Rattle.gfx_base.specs.declared.geometry.Rect.{Rect}
use Rattle.gfx_base.specs.declared.pixel.Pixel.{Pixel}
use Rattle.gfx_base.specs.declared.refusal.Refusal.{Refusal}
use Rattle.gfx_base.specs.Geometry.{holds, moved, sized}
use Rattle.gfx_bitmap_cache.specs.Slots.{Entry}
use Rattle.gfx_prog_decode.specs.Showing.{cell_in, covered, shown_in}
use Rattle.gfx_prog_encode.specs.declared.send.TileSend.{TileSend}
use Rattle.gfx_prog_encode.specs.Messages.{area_of}
use Rattle.gfx_prog_live.specs.Cells.{cell_key}
use Rattle.gfx_prog_live.specs.Live.{improved_sends, painted_sends}
use Rattle.gfx_prog_live.specs.Showing.{after_showing, with_shown}
use Rattle.gfx_script.specs.declared.picture.Picture.{Picture as Source}
use Rattle.gfx_script.specs.declared.step.Kind.{Kind}
use Rattle.gfx_script.specs.declared.step.Step.{Step}
use Rattle.gfx_script.specs.declared.step.Step.TheVariants.{Surface, Delete, Reset, Map, Fill, Copy, Keep, Show, Forget, Paint, Improve, Frame}
use Rattle.gfx_script.specs.declared.way.Way.{Way}
use Rattle.gfx_script.specs.declared.way.Way.TheVariants.{Uncompressed, ByLayer, InPasses, Video}
use Rattle.gfx_script.specs.Kinds.{KindedStep}
use Rattle.gfx_script.specs.Script.{IsStep}
use Rattle.gfx_script.specs.Scripted.{Script}
use Rattle.gfx_script.specs.Ways.{goes_by}
use Rattle.gfx_script.specs.Writes.{place_of}
use Rattle.gfx_slot_plan.specs.declared.kept.Kept.{Kept}
use Rattle.gfx_slot_plan.specs.Plan.{Plan, slot_of}
use Rattle.gfx_surface.proofs.PictureLemmas.{blank_is_picture, copied_is_picture, overlaid_is_picture, redrawn_some}
use Rattle.gfx_surface.specs.Picture.{IsPicture, Picture, blank, copied, overlaid}
use Rattle.gfx_surface_map.proofs.PaintedLemmas.{painted_is_picture}
use Rattle.gfx_surface_map.specs.Shown.{Shown, copied_to, stamped}
use Rattle.gfx_surface_map.specs.Surfaces.{Surfaces, painted}
use Rattle.gfx_tile_make.specs.Levels.{tile_at}
use Rattle.gfx_tile_state.specs.Record.{pixel_of}
use Rattle.gfx_video_paint.proofs.Cover.{placed-filled, shown-is-picture}
use Rattle.gfx_video_paint.specs.Shown.{shown_as_video}
use Rattle.gfx_planner.specs.Bitmaps.{bitmap_in}
use Rattle.gfx_planner.specs.Pixels.{opaque_in, pixels_in}
use Rattle.gfx_planner.specs.Wanted.{Wanted}
use Rattle.gfx_planner.specs.SurfaceEffects.{drawn_on, with_copy}
use Rattle.gfx_planner.specs.BitmapEffects.{with_bitmap, with_stamps}
use Rattle.gfx_planner.specs.PaintEffects.{with_painting, with_pixels, with_video}
use Rattle.gfx_planner.specs.TileEffects.{with_improved, with_tiles}
use Rattle.gfx_planner.specs.Want.{wanted_after, wanted_as}
use Rattle.gfx_planner.proofs.TilesAccepted.{surface_elsewhere, surface_here}
use Rattle.gfx_laws.specs.Premises.{WantedSurfacesArePictures}
use Rattle.gfx_laws.specs.Seen.{ArePictures}
use Rattle.gfx_laws.proofs.Fronts.{Along, along, first_part, next}

-- ---- pictures

copies-are : (source : Picture) (rect : Rect) (points : List Point) (picture : Picture) → IsPicture picture → IsPicture (copied_to source rect points picture)
copies-are source rect [] picture is = is
copies-are source rect (point ∷ points) picture is = copies-are source rect points (copied source rect point picture) (copied_is_picture source rect point picture is)

stamps-are : (rect : Rect) (pixels : List Pixel) (points : List Point) (picture : Picture) → IsPicture picture → IsPicture (stamped rect pixels points picture)
stamps-are rect pixels [] picture is = is
stamps-are rect pixels (point ∷ points) picture is = stamps-are rect pixels points (overlaid picture (moved rect point) pixels) (overlaid_is_picture picture (moved rect point) pixels is)

shown-is : (id : ℕ) (send : TileSend) (picture : Picture) → IsPicture picture → IsPicture (with_shown id picture send)
unfolding shown_in
shown-is id send picture is =
    redrawn_some picture (λ x y. holds (cell_in picture.width picture.height (cell_key id send.cell)) x y && covered (area_of send ∷ []) x y)
    (λ x y. pixel_of (tile_at send.tile send.level) (y - 64 * send.cell.y) (x - 64 * send.cell.x)) is

tiles-are : (id : ℕ) (sends : List TileSend) (picture : Picture) → IsPicture picture → IsPicture (after_showing id sends picture)
tiles-are id [] picture is = is
tiles-are id (send ∷ sends) picture is = tiles-are id sends (with_shown id picture send) (shown-is id send picture is)

-- ---- surfaces

put-are : (surfaces : Surfaces) (id : ℕ) (new : Picture) → ArePictures surfaces → IsPicture new → ArePictures (insert surfaces id new)
put-are surfaces id new are is q picture there = by (cases_eq q id)
  where
    by : ((q ≡ id) ⊎ (q ≢ id)) → IsPicture picture
    by (inl at) = let both : Some new ≡ Some picture = sym (surface_here surfaces id new q at) ∙ there in let same : new ≡ picture = cc in subst IsPicture same is
    by (inr apart) = are q picture (sym (surface_elsewhere surfaces id new q apart) ∙ there)

left-are : (surfaces : Surfaces) (id : ℕ) → ArePictures surfaces → ArePictures (remove surfaces id)
left-are surfaces id are q picture there = by (eq_by_cmp nat_cmp q id) (sym (get-remove nat_cmp_total surfaces id q) ∙ there)
  where
    by : (b : Bool) → cond b None (get surfaces q) ≡ Some picture → IsPicture picture
    by true e = absurd cc
    by false e = are q picture e

drawn-are : (shown : Shown) (id : ℕ) (draw : Picture → Picture) → ((picture : Picture) → IsPicture picture → IsPicture (draw picture)) → ArePictures shown.surfaces
    → ArePictures (drawn_on shown id (get shown.surfaces id) draw).surfaces
unfolding drawn_on
drawn-are shown id draw draws are = by (get shown.surfaces id) refl
  where
    by : (o : Option Picture) → get shown.surfaces id ≡ o → ArePictures (drawn_on shown id o draw).surfaces
    by None none = are
    by (Some picture) there = put-are shown.surfaces id (draw picture) are (draws picture (are id picture there))

copy-are : (wanted : Wanted) (o : Option Picture) (to : ℕ) (rect : Rect) (points : List Point) → ArePictures wanted.shown.surfaces → ArePictures (with_copy wanted o to rect points).shown.surfaces
unfolding with_copy
copy-are wanted None to rect points are = are
copy-are wanted (Some source) to rect points are = drawn-are wanted.shown to (copied_to source rect points) (copies-are source rect points) are

keep-are : (wanted : Wanted) (o : Option Picture) (found : Result (Plan × Kept) Refusal) (key : ℕ) (rect : Rect) → ArePictures wanted.shown.surfaces → ArePictures (with_bitmap wanted o found key rect).shown.surfaces
unfolding with_bitmap
keep-are wanted None found key rect are = are
keep-are wanted (Some picture) (Err r) key rect are = are
keep-are wanted (Some picture) (Ok found) key rect are = are

show-are : (wanted : Wanted) (o : Option Entry) (to : ℕ) (points : List Point) → ArePictures wanted.shown.surfaces → ArePictures (with_stamps wanted o to points).shown.surfaces
unfolding with_stamps
show-are wanted None to points are = are
show-are wanted (Some e) to points are = drawn-are wanted.shown to (stamped (sized e.image.width e.image.height) e.image.pixels points) (stamps-are (sized e.image.width e.image.height) e.image.pixels points) are

pixels-are : (wanted : Wanted) (o : Option Source) (pixels : Source → List Pixel) (id : ℕ) (at : Point) → ArePictures wanted.shown.surfaces → ArePictures (with_pixels wanted o pixels id at).shown.surfaces
unfolding with_pixels
pixels-are wanted None pixels id at are = are
pixels-are wanted (Some source) pixels id at are =
    drawn-are wanted.shown id (λ surface. overlaid surface (place_of source at) (pixels source)) (λ picture is. overlaid_is_picture picture (place_of source at) (pixels source) is) are

paint-are : (script : Script) (wanted : Wanted) (way : Option Way) (o : Option Source) (id : ℕ) (at : Point) → ArePictures wanted.shown.surfaces → ArePictures (with_painting script wanted way o id at).shown.surfaces
unfolding with_painting with_tiles with_video
paint-are script wanted None o id at are = are
paint-are script wanted (Some Uncompressed) o id at are = pixels-are wanted o pixels_in id at are
paint-are script wanted (Some (ByLayer layer)) o id at are = pixels-are wanted o opaque_in id at are
paint-are script wanted (Some InPasses) None id at are = are
paint-are script wanted (Some InPasses) (Some source) id at are = drawn-are wanted.shown id _ (tiles-are id (painted_sends script wanted.passes.live id source (place_of source at))) are
paint-are script wanted (Some Video) None id at are = are
paint-are script wanted (Some Video) (Some source) id at are =
    drawn-are wanted.shown id (shown_as_video script.setting source (place_of source at)) (λ picture is. shown-is-picture script.setting source (place_of source at) picture is (placed-filled source at)) are

improved-are : (wanted : Wanted) (o : Option Picture) (id : ℕ) → ArePictures wanted.shown.surfaces → ArePictures (with_improved wanted o id).shown.surfaces
unfolding with_improved
improved-are wanted None id are = are
improved-are wanted (Some surface) id are = drawn-are wanted.shown id _ (tiles-are id (improved_sends wanted.passes.live id surface.width surface.height)) are

-- ---- steps

step-are : (script : Script) (wanted : Wanted) (kind : Option Kind) (step : Step) → IsStep step → ArePictures wanted.shown.surfaces → ArePictures (wanted_as script wanted kind step).shown.surfaces
unfolding wanted_as
step-are script wanted kind (Surface id width height format) numbers are =
    put-are wanted.shown.surfaces id (blank width height format) are (blank_is_picture width height format numbers.1 numbers.2 numbers.3 numbers.4)
step-are script wanted kind (Delete id) numbers are = left-are wanted.shown.surfaces id are
step-are script wanted kind (Reset width height) numbers are = are
step-are script wanted kind (Map id x y) numbers are = are
step-are script wanted kind (Fill id colour rects) numbers are = drawn-are wanted.shown id (λ picture. painted picture rects colour) (λ picture is. painted_is_picture picture rects colour is) are
step-are script wanted kind (Copy from to rect points) numbers are = copy-are wanted (get wanted.shown.surfaces from) to rect points are
step-are script wanted kind (Keep id key rect) numbers are = keep-are wanted (get wanted.shown.surfaces id) _ key rect are
step-are script wanted kind (Show key to points) numbers are = show-are wanted (bitmap_in wanted.slots (slot_of key wanted.plan.places)) to points are
step-are script wanted kind (Forget key) numbers are = are
step-are script wanted kind (Paint id number at named glyph) numbers are = paint-are script wanted (goes_by script.thin kind) (slice_get script.pictures number) id at are
step-are script wanted kind (Improve id) numbers are = improved-are wanted (get wanted.shown.surfaces id) id are
step-are script wanted kind Frame numbers are = are

steps-are : (script : Script) (wanted : Wanted) (steps : List KindedStep) → Along script wanted steps → ArePictures wanted.shown.surfaces → ArePictures (fold (wanted_after script) wanted steps).shown.surfaces
steps-are script wanted [] a are = are
steps-are script wanted (one ∷ steps) a are =
    steps-are script (wanted_after script wanted one) steps (next script wanted one steps a) (λ id picture there. step-are script wanted one.kind one.step a.numbers.0 are id picture there)

-- the promise
pub pictures-wanted : WantedSurfacesArePictures
pictures-wanted start script front rest go =
    steps-are script start.wanted front (first_part script start.wanted front rest (along start script [] (front ++ rest) go)) go.pictures

-- where there are no surfaces, they are pictures
pub no-pictures : ArePictures empty
no-pictures id picture there = let none : get (empty {X = Picture} {R = nat_cmp}) id ≡ None = get-empty nat_cmp id in absurd (let both : None ≡ Some picture = sym none ∙ there in cc)
