-- A surface keeps its sides and its format until it is deleted.
use Rattle.std.proofs.Common.{◌≡◌, ◌≢◌, ◌⊎◌, ◌∙◌, ℕ, false, cond, List, [], ◌∷◌, Option, Some, None, Result, Ok, Err, inl, inr, refl, sym, ap, subst, arith}
use Rattle.std.specs.Cmp.{nat_cmp_total}
use Rattle.std.specs.FinMap.{get, get-remove, insert, remove}
use Rattle.std.specs.Ordering.{eq_by_cmp, nat_cmp}
use Rattle.std.specs.List.{slice_get}
use Rattle.std.proofs.lemmas.Bool.{cases_eq}
use Rattle.std.proofs.lemmas.Bool.Decides.{nat_tests}
use Rattle.gfx_base.specs.declared.geometry.Point.{Point}
use Rattle.gfx_base.specs.declared.geometry.Rect.{Rect}
use Rattle.gfx_base.specs.declared.pixel.Pixel.{Pixel}
use Rattle.gfx_base.specs.declared.refusal.Refusal.{Refusal}
use Rattle.gfx_base.specs.Geometry.{moved, sized}
use Rattle.gfx_bitmap_cache.specs.Slots.{Entry}
use Rattle.gfx_prog_law.proofs.Seen.{SameShape, showing-shape}
use Rattle.gfx_prog_live.specs.Live.{improved_sends, painted_sends}
use Rattle.gfx_script.specs.declared.picture.Picture.{Picture as Source}
use Rattle.gfx_script.specs.declared.step.Kind.{Kind}
use Rattle.gfx_script.specs.declared.step.Step.{Step}
use Rattle.gfx_script.specs.declared.step.Step.TheVariants.{Surface, Delete, Reset, Map, Fill, Copy, Keep, Show, Forget, Paint, Improve, Frame}
use Rattle.gfx_script.specs.declared.way.Way.{Way}
use Rattle.gfx_script.specs.declared.way.Way.TheVariants.{Uncompressed, ByLayer, InPasses, Video}
use Rattle.gfx_script.specs.Scripted.{Script}
use Rattle.gfx_script.specs.Ways.{goes_by}
use Rattle.gfx_script.specs.Writes.{place_of}
use Rattle.gfx_slot_plan.specs.declared.kept.Kept.{Kept}
use Rattle.gfx_slot_plan.specs.Plan.{Plan, slot_of}
use Rattle.gfx_surface.specs.Picture.{Picture, blank, copied, filled, overlaid}
use Rattle.gfx_surface_map.specs.Shown.{Shown, copied_to, stamped}
use Rattle.gfx_surface_map.specs.Surfaces.{Surfaces, painted}
use Rattle.gfx_video_paint.proofs.Cover.{shown-format, shown-height, shown-width}
use Rattle.gfx_video_paint.specs.Shown.{shown_as_video}
use Rattle.gfx_planner.specs.Bitmaps.{bitmap_in}
use Rattle.gfx_planner.specs.Pixels.{opaque_in, pixels_in}
use Rattle.gfx_planner.specs.Wanted.{Wanted}
use Rattle.gfx_planner.specs.SurfaceEffects.{drawn_on, with_copy}
use Rattle.gfx_planner.specs.BitmapEffects.{with_bitmap, with_stamps}
use Rattle.gfx_planner.specs.PaintEffects.{with_painting, with_pixels, with_video}
use Rattle.gfx_planner.specs.TileEffects.{with_improved, with_tiles}
use Rattle.gfx_planner.specs.Want.{wanted_as}
use Rattle.gfx_planner.proofs.TilesAccepted.{surface_elsewhere, surface_here}

-- ---- pictures

same-shape : (picture : Picture) → SameShape picture picture
same-shape picture = record { width = refl; height = refl; format = refl }

both-shapes : (a b c : Picture) → SameShape a b → SameShape b c → SameShape a c
both-shapes a b c one other = record { width = other.width ∙ one.width; height = other.height ∙ one.height; format = other.format ∙ one.format }

filled-shape : (picture : Picture) (rect : Rect) (colour : Pixel) → SameShape picture (filled picture rect colour)
unfolding filled
filled-shape picture rect colour = record { width = refl; height = refl; format = refl }

copied-shape : (source : Picture) (rect : Rect) (to : Point) (picture : Picture) → SameShape picture (copied source rect to picture)
unfolding copied
copied-shape source rect to picture = record { width = refl; height = refl; format = refl }

overlaid-shape : (picture : Picture) (rect : Rect) (pixels : List Pixel) → SameShape picture (overlaid picture rect pixels)
unfolding overlaid
overlaid-shape picture rect pixels = record { width = refl; height = refl; format = refl }

pub painted-shape : (rects : List Rect) (colour : Pixel) (picture : Picture) → SameShape picture (painted picture rects colour)
painted-shape [] colour picture = same-shape picture
painted-shape (rect ∷ rects) colour picture =
    both-shapes picture (filled picture rect colour) (painted (filled picture rect colour) rects colour) (filled-shape picture rect colour) (painted-shape rects colour (filled picture rect colour))

pub copies-shape : (source : Picture) (rect : Rect) (points : List Point) (picture : Picture) → SameShape picture (copied_to source rect points picture)
copies-shape source rect [] picture = same-shape picture
copies-shape source rect (point ∷ points) picture =
    both-shapes picture (copied source rect point picture) (copied_to source rect points (copied source rect point picture)) (copied-shape source rect point picture)
    (copies-shape source rect points (copied source rect point picture))

pub stamps-shape : (rect : Rect) (pixels : List Pixel) (points : List Point) (picture : Picture) → SameShape picture (stamped rect pixels points picture)
stamps-shape rect pixels [] picture = same-shape picture
stamps-shape rect pixels (point ∷ points) picture =
    both-shapes picture (overlaid picture (moved rect point) pixels) (stamped rect pixels points (overlaid picture (moved rect point) pixels)) (overlaid-shape picture (moved rect point) pixels)
    (stamps-shape rect pixels points (overlaid picture (moved rect point) pixels))

video-shape : (script : Script) (source : Source) (at : Point) (picture : Picture) → SameShape picture (shown_as_video script.setting source (place_of source at) picture)
video-shape script source at picture = record {
  width = shown-width script.setting source (place_of source at) picture;
  height = shown-height script.setting source (place_of source at) picture;
  format = shown-format script.setting source (place_of source at) picture;
}

-- ---- surfaces

-- a surface that was there is there, of the same shape
pub record IsKept (surfaces : Surfaces) (id : ℕ) (old : Picture) : Type 0 where
  pub picture : Picture
  pub there : get surfaces id ≡ Some picture
  pub shape : SameShape old picture

abbrev pub Keeps : ℕ → Surfaces → Surfaces → Type 0
Keeps id old new = (picture : Picture) → get old id ≡ Some picture → IsKept new id picture

kept-same : (id : ℕ) (surfaces : Surfaces) → Keeps id surfaces surfaces
kept-same id surfaces picture there = record { picture = picture; there = there; shape = same-shape picture }

kept-elsewhere : (surfaces : Surfaces) (id other : ℕ) (new : Picture) → id ≢ other → Keeps id surfaces (insert surfaces other new)
kept-elsewhere surfaces id other new apart picture there = record { picture = picture; there = surface_elsewhere surfaces other new id apart ∙ there; shape = same-shape picture }

left-elsewhere : (surfaces : Surfaces) (id other : ℕ) → id ≢ other → get (remove surfaces other) id ≡ get surfaces id
left-elsewhere surfaces id other apart =
    let differ : eq_by_cmp nat_cmp id other ≡ false = grind (arith, nat_tests) in
    get-remove nat_cmp_total surfaces other id ∙ ap (λ b. cond b None (get surfaces id)) differ

-- one that is drawn on
kept-drawn : (shown : Shown) (id other : ℕ) (draw : Picture → Picture) → ((picture : Picture) → SameShape picture (draw picture)) → Keeps id shown.surfaces (drawn_on shown other (get shown.surfaces other) draw).surfaces
unfolding drawn_on
kept-drawn shown id other draw shape picture there = by (get shown.surfaces other) refl (cases_eq id other)
  where
    by : (o : Option Picture) → get shown.surfaces other ≡ o → ((id ≡ other) ⊎ (id ≢ other)) → IsKept (drawn_on shown other o draw).surfaces id picture
    by None none which = record { picture = picture; there = there; shape = same-shape picture }
    by (Some before) found (inl at) =
        let one : Some before ≡ Some picture = sym found ∙ ap (get shown.surfaces) (sym at) ∙ there in
        let same : before ≡ picture = cc in
        record { picture = draw before; there = surface_here shown.surfaces other (draw before) id at; shape = subst (λ p. SameShape p (draw before)) same (shape before) }
    by (Some before) found (inr apart) = kept-elsewhere shown.surfaces id other (draw before) apart picture there

kept-copy : (wanted : Wanted) (o : Option Picture) (id to : ℕ) (rect : Rect) (points : List Point) → Keeps id wanted.shown.surfaces (with_copy wanted o to rect points).shown.surfaces
unfolding with_copy
kept-copy wanted None id to rect points = kept-same id wanted.shown.surfaces
kept-copy wanted (Some source) id to rect points = kept-drawn wanted.shown id to (copied_to source rect points) (copies-shape source rect points)

kept-keep : (wanted : Wanted) (o : Option Picture) (found : Result (Plan × Kept) Refusal) (id key : ℕ) (rect : Rect) → Keeps id wanted.shown.surfaces (with_bitmap wanted o found key rect).shown.surfaces
unfolding with_bitmap
kept-keep wanted None found id key rect = kept-same id wanted.shown.surfaces
kept-keep wanted (Some picture) (Err r) id key rect = kept-same id wanted.shown.surfaces
kept-keep wanted (Some picture) (Ok found) id key rect = kept-same id wanted.shown.surfaces

kept-stamps : (wanted : Wanted) (o : Option Entry) (id to : ℕ) (points : List Point) → Keeps id wanted.shown.surfaces (with_stamps wanted o to points).shown.surfaces
unfolding with_stamps
kept-stamps wanted None id to points = kept-same id wanted.shown.surfaces
kept-stamps wanted (Some e) id to points =
    kept-drawn wanted.shown id to (stamped (sized e.image.width e.image.height) e.image.pixels points) (stamps-shape (sized e.image.width e.image.height) e.image.pixels points)

kept-pixels : (wanted : Wanted) (o : Option Source) (pixels : Source → List Pixel) (id other : ℕ) (at : Point) → Keeps id wanted.shown.surfaces (with_pixels wanted o pixels other at).shown.surfaces
unfolding with_pixels
kept-pixels wanted None pixels id other at = kept-same id wanted.shown.surfaces
kept-pixels wanted (Some source) pixels id other at =
    kept-drawn wanted.shown id other (λ surface. overlaid surface (place_of source at) (pixels source)) (λ picture. overlaid-shape picture (place_of source at) (pixels source))

kept-tiles : (script : Script) (wanted : Wanted) (o : Option Source) (id other : ℕ) (at : Point) → Keeps id wanted.shown.surfaces (with_tiles script wanted o other at).shown.surfaces
unfolding with_tiles
kept-tiles script wanted None id other at = kept-same id wanted.shown.surfaces
kept-tiles script wanted (Some source) id other at = kept-drawn wanted.shown id other _ (showing-shape other (painted_sends script wanted.passes.live other source (place_of source at)))

kept-video : (script : Script) (wanted : Wanted) (o : Option Source) (id other : ℕ) (at : Point) → Keeps id wanted.shown.surfaces (with_video script wanted o other at).shown.surfaces
unfolding with_video
kept-video script wanted None id other at = kept-same id wanted.shown.surfaces
kept-video script wanted (Some source) id other at = kept-drawn wanted.shown id other _ (video-shape script source at)

kept-paint : (script : Script) (wanted : Wanted) (way : Option Way) (o : Option Source) (id other : ℕ) (at : Point) → Keeps id wanted.shown.surfaces (with_painting script wanted way o other at).shown.surfaces
unfolding with_painting
kept-paint script wanted None o id other at = kept-same id wanted.shown.surfaces
kept-paint script wanted (Some Uncompressed) o id other at = kept-pixels wanted o pixels_in id other at
kept-paint script wanted (Some (ByLayer layer)) o id other at = kept-pixels wanted o opaque_in id other at
kept-paint script wanted (Some InPasses) o id other at = kept-tiles script wanted o id other at
kept-paint script wanted (Some Video) o id other at = kept-video script wanted o id other at

kept-improved : (wanted : Wanted) (o : Option Picture) (id other : ℕ) → Keeps id wanted.shown.surfaces (with_improved wanted o other).shown.surfaces
unfolding with_improved
kept-improved wanted None id other = kept-same id wanted.shown.surfaces
kept-improved wanted (Some surface) id other = kept-drawn wanted.shown id other _ (showing-shape other (improved_sends wanted.passes.live other surface.width surface.height))

-- ---- steps

-- a step neither makes a surface nor deletes it
abbrev pub IsOther : ℕ → Step → Type 0
IsOther id (Surface other width height format) = id ≢ other
IsOther id (Delete other) = id ≢ other
IsOther id step = Unit {0}

pub step-keeps : (script : Script) (wanted : Wanted) (kind : Option Kind) (step : Step) (id : ℕ) → IsOther id step → Keeps id wanted.shown.surfaces (wanted_as script wanted kind step).shown.surfaces
unfolding wanted_as
step-keeps script wanted kind (Surface other width height format) id apart = kept-elsewhere wanted.shown.surfaces id other (blank width height format) apart
step-keeps script wanted kind (Delete other) id apart = λ picture there. record { picture = picture; there = left-elsewhere wanted.shown.surfaces id other apart ∙ there; shape = same-shape picture }
step-keeps script wanted kind (Reset width height) id apart = kept-same id wanted.shown.surfaces
step-keeps script wanted kind (Map other x y) id apart = kept-same id wanted.shown.surfaces
step-keeps script wanted kind (Fill other colour rects) id apart = kept-drawn wanted.shown id other (λ picture. painted picture rects colour) (painted-shape rects colour)
step-keeps script wanted kind (Copy from to rect points) id apart = kept-copy wanted (get wanted.shown.surfaces from) id to rect points
step-keeps script wanted kind (Keep other key rect) id apart = kept-keep wanted (get wanted.shown.surfaces other) _ id key rect
step-keeps script wanted kind (Show key to points) id apart = kept-stamps wanted (bitmap_in wanted.slots (slot_of key wanted.plan.places)) id to points
step-keeps script wanted kind (Forget key) id apart = kept-same id wanted.shown.surfaces
step-keeps script wanted kind (Paint other number at named glyph) id apart = kept-paint script wanted (goes_by script.thin kind) (slice_get script.pictures number) id other at
step-keeps script wanted kind (Improve other) id apart = kept-improved wanted (get wanted.shown.surfaces other) id other
step-keeps script wanted kind Frame id apart = kept-same id wanted.shown.surfaces
