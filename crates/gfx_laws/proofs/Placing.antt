-- What a step has written right after it, where it doesn't paint in passes.
use Rattle.std.proofs.Common.{◌≡◌, ◌∙◌, ◌-◌, ◌%◌, ◌<◌, ◌≤◌, ◌||◌, ◌&&◌, ℕ, Bool, true, false, List, [], ◌∷◌, Option, Some, None, option_map, Ok, refl, sym, ap, subst, arith}
use Rattle.std.specs.FinMap.{get}
use Rattle.std.specs.List.{list_all, list_any, slice_get}
use Rattle.std.specs.Option.{ok_or}
use Rattle.std.proofs.lemmas.Bool.Decides.{nat_tests}
use Rattle.gfx_base.specs.declared.format.Format.{Format}
use Rattle.gfx_base.specs.declared.geometry.Point.{Point}
use Rattle.gfx_base.specs.declared.geometry.Rect.{Rect}
use Rattle.gfx_base.specs.declared.pixel.Pixel.{Pixel}
use Rattle.gfx_base.specs.Geometry.{fit_all, holds, lies_in, moved, sized}
use Rattle.gfx_base.specs.Results.{check}
use Rattle.gfx_base.proofs.ResultLemmas.{and_then_ok, check_ok}
use Rattle.gfx_bitmap_cache.specs.Slots.{Entry}
use Rattle.gfx_clear.specs.declared.layer.Layer.{Layer}
use Rattle.gfx_dwt.specs.declared.layout.Transform.TheVariants.{Plain}
use Rattle.gfx_prog_law.proofs.Seen.{SameShape}
use Rattle.gfx_quant.specs.declared.setting.Setting.{Setting}
use Rattle.gfx_script.specs.Checks.{Held, held_after, rect_copied}
use Rattle.gfx_script.specs.declared.error.ScriptKind.TheVariants as fault
use Rattle.gfx_script.specs.declared.held.Sides.{Sides}
use Rattle.gfx_script.specs.declared.picture.Picture.{Picture as Source}
use Rattle.gfx_script.specs.declared.step.Kind.{Kind}
use Rattle.gfx_script.specs.declared.step.Step.{Step}
use Rattle.gfx_script.specs.declared.step.Step.TheVariants.{Surface, Delete, Reset, Map, Fill, Copy, Keep, Show, Forget, Paint, Improve, Frame}
use Rattle.gfx_script.specs.declared.way.Way.{Way}
use Rattle.gfx_script.specs.declared.way.Way.TheVariants.{Uncompressed, ByLayer, InPasses, Video}
use Rattle.gfx_script.specs.Kinds.{HasKind, as_kind}
use Rattle.gfx_script.specs.Patterns.{pixel_of}
use Rattle.gfx_script.specs.Scripted.{Script}
use Rattle.gfx_script.specs.Ways.{goes_by, is_in_passes, way_of}
use Rattle.gfx_script.specs.Writes.{area, at_each, place_of, writes_by}
use Rattle.gfx_slot_plan.specs.Plan.{Plan, slot_of}
use Rattle.gfx_surface.specs.Picture.{IsPicture, Picture, blank, copied, overlaid, pixel_at, shade}
use Rattle.gfx_surface_map.specs.Shown.{Shown, copied_to, stamped}
use Rattle.gfx_surface_map.specs.Surfaces.{Surfaces, painted}
use Rattle.gfx_tile_make.specs.Levels.{direct_pixel}
use Rattle.gfx_tile_make.specs.Source.{SourceTile}
use Rattle.gfx_planner.specs.Bitmaps.{bitmap_in, sides_in, sides_kept}
use Rattle.gfx_planner.specs.Pixels.{opaque_in, pixels_in}
use Rattle.gfx_planner.specs.Wanted.{Wanted}
use Rattle.gfx_planner.specs.SurfaceEffects.{drawing, drawn_on, with_copy}
use Rattle.gfx_planner.specs.BitmapEffects.{with_stamps}
use Rattle.gfx_planner.specs.PaintEffects.{with_painting, with_pixels}
use Rattle.gfx_planner.specs.Want.{wanted_as}
use Rattle.gfx_planner.specs.Holds.{HoldsSurfaces}
use Rattle.gfx_planner.proofs.BitmapSteps.{MayShow, may_show}
use Rattle.gfx_planner.proofs.PaintSteps.{MayPaint, may_paint}
use Rattle.gfx_planner.proofs.Seen.{seen}
use Rattle.gfx_planner.proofs.SurfaceSteps.{found_there, may_fill}
use Rattle.gfx_planner.proofs.TilesAccepted.{surface_here}
use Rattle.gfx_laws.specs.Decoded.{decoded, decoded_from}
use Rattle.gfx_laws.specs.PassesShown.{IsTileOf}
use Rattle.gfx_laws.specs.Seen.{ArePictures}
use Rattle.gfx_laws.specs.VideoShown.{IsOfVideoTile, ShowsVideo}
use Rattle.gfx_laws.specs.Written.{HasPixel, IsPainted, IsWritten, goes_in_passes}
use Rattle.gfx_laws.proofs.Fronts.{Here}
use Rattle.gfx_laws.proofs.Shapes.{copies-shape, painted-shape, stamps-shape}
use Rattle.gfx_laws.proofs.VideoPainted.{video-shows}
use Rattle.gfx_laws.proofs.Where.{writes_at}
use Rattle.gfx_laws.proofs.Writing.{PutLast, blank-pixel, clear-pixel, copies-all, copies-put, copy-colour, fill-pixel, put-pixel, raw-pixel, stamp, stamp-colour, stamps-all, stamps-put}

-- ---- a tile that is decoded at once

pub tile-decoded : (setting : Setting) (pixels : List Pixel) (tile : SourceTile) (y x : ℕ) → IsTileOf setting pixels tile → direct_pixel tile y x ≡ decoded setting pixels y x
tile-decoded setting pixels tile y x is = λ i. decoded_from (is.coded i) (λ component. is.values component i) y x

-- ---- rectangles on a surface

pub in-sides : (width height : ℕ) (rect : Rect) (x y : ℕ) → lies_in width height rect ≡ true → holds rect x y ≡ true → (x < width) × (y < height)
in-sides width height rect x y inside hit =
    let right : rect.right ≤ width = grind (arith, nat_tests) in
    let bottom : rect.bottom ≤ height = grind (arith, nat_tests) in
    let column : x < rect.right = grind (arith, nat_tests) in
    let row : y < rect.bottom = grind (arith, nat_tests) in
    (omega (arith, right, column), omega (arith, bottom, row))

both-hold : (a b : Bool) → (a && b) ≡ true → (a ≡ true) × (b ≡ true)
both-hold true true e = (refl, refl)
both-hold true false e = absurd cc
both-hold false b e = absurd cc

-- of rectangles that lie on a surface one has the pixel
any-inside : (width height : ℕ) (rects : List Rect) (x y : ℕ) → list_all (lies_in width height) rects ≡ true → list_any (λ rect. holds rect x y) rects ≡ true → (x < width) × (y < height)
any-inside width height [] x y inside has = absurd (let f : false ≡ true = has in cc)
any-inside width height (rect ∷ rects) x y inside has =
    let both = both-hold (lies_in width height rect) (list_all (lies_in width height) rects) inside in
    by both.0 (λ more. any-inside width height rects x y both.1 more) (holds rect x y) refl
  where
    by : lies_in width height rect ≡ true → (list_any (λ r. holds r x y) rects ≡ true → (x < width) × (y < height)) → (b : Bool) → holds rect x y ≡ b → (x < width) × (y < height)
    by lies rest true hit = in-sides width height rect x y lies hit
    by lies rest false miss = rest (sym (ap (λ b. b || list_any (λ r. holds r x y) rects) miss) ∙ has)

-- the same at points
fit-each : (width height : ℕ) (rect : Rect) (points : List Point) → fit_all width height rect points ≡ true → list_all (lies_in width height) (at_each points rect) ≡ true
fit-each width height rect [] fits = refl
fit-each width height rect (point ∷ points) fits =
    let both = both-hold (lies_in width height (moved rect point)) (fit_all width height rect points) fits in
    ap (λ b. b && list_all (lies_in width height) (at_each points rect)) both.0 ∙ fit-each width height rect points both.1

only : (b : Bool) → (b || false) ≡ true → b ≡ true
only true e = refl
only false e = e

-- ---- surfaces

pub drawn-there : (shown : Shown) (id other : ℕ) (o : Option Picture) (surface : Picture) (draw : Picture → Picture) → other ≡ id → o ≡ Some surface → get (drawn_on shown other o draw).surfaces id ≡ Some (draw surface)
unfolding drawn_on
drawn-there shown id other o surface draw at there =
    ap (λ z. get (drawn_on shown other z draw).surfaces id) there ∙ surface_here shown.surfaces other (draw surface) id (sym at)

-- what a step wrote
pub record Placed (script : Script) (wanted new : Wanted) (kind : Option Kind) (step : Step) (id x y : ℕ) : Type 0 where
  pub picture : Picture
  pub there : get new.shown.surfaces id ≡ Some picture
  pub column : x < picture.width
  pub row : y < picture.height
  pub is : (improved : ℕ) → IsWritten script wanted kind step picture.format improved x y (pixel_at picture x y)

-- ---- fills, copies and bitmaps

module _ (script : Script) (wanted : Wanted) (kind : Option Kind) (x y : ℕ) where
  placed-made : (id other width height : ℕ) (format : Format) → other ≡ id → (holds (sized width height) x y || false) ≡ true
      → Placed script wanted (wanted_as script wanted kind (Surface other width height format)) kind (Surface other width height format) id x y
  unfolding wanted_as
  placed-made id other width height format at has =
      let hit : holds (sized width height) x y ≡ true = only (holds (sized width height) x y) has in
      let column : x < width = grind (arith, nat_tests) in
      let row : y < height = grind (arith, nat_tests) in
      record {
        picture = blank width height format;
        there = surface_here wanted.shown.surfaces other (blank width height format) id (sym at);
        column = column;
        row = row;
        is = λ improved. blank-pixel width height format x y column row;
      }

  placed-fill : (id other : ℕ) (colour : Pixel) (rects : List Rect) (surface : Picture) → other ≡ id → get wanted.shown.surfaces other ≡ Some surface → list_all (lies_in surface.width surface.height) rects ≡ true
      → list_any (λ rect. holds rect x y) rects ≡ true → Placed script wanted (wanted_as script wanted kind (Fill other colour rects)) kind (Fill other colour rects) id x y
  unfolding wanted_as
  placed-fill id other colour rects surface at there inside has =
      let shape = painted-shape rects colour surface in
      let sides = any-inside surface.width surface.height rects x y inside has in
      record {
        picture = painted surface rects colour;
        there = drawn-there wanted.shown id other (get wanted.shown.surfaces other) surface (λ picture. painted picture rects colour) at there;
        column = subst (λ n. x < n) (sym shape.width) sides.0;
        row = subst (λ n. y < n) (sym shape.height) sides.1;
        is = λ improved. fill-pixel rects colour surface x y sides.0 sides.1 has ∙ ap (λ format. shade format colour) (sym shape.format);
      }

  with_copy-there : (o : Option Picture) (source : Picture) (to : ℕ) (rect : Rect) (points : List Point) → o ≡ Some source → with_copy wanted o to rect points ≡ drawing wanted to (copied_to source rect points)
  unfolding with_copy
  with_copy-there o source to rect points there = ap (λ z. with_copy wanted z to rect points) there

  placed-copy : (id from to : ℕ) (rect : Rect) (points : List Point) (source target : Picture) → to ≡ id → get wanted.shown.surfaces from ≡ Some source → get wanted.shown.surfaces to ≡ Some target
      → fit_all target.width target.height rect points ≡ true → list_any (λ r. holds r x y) (at_each points rect) ≡ true
      → Placed script wanted (wanted_as script wanted kind (Copy from to rect points)) kind (Copy from to rect points) id x y
  unfolding wanted_as
  placed-copy id from to rect points source target at found there fits has =
      let shape = copies-shape source rect points target in
      let sides = any-inside target.width target.height (at_each points rect) x y (fit-each target.width target.height rect points fits) has in
      let put : PutLast rect (copied source rect) (copy-colour source rect) x y points target = put-pixel rect (copied source rect) (copy-colour source rect) (copies-put source rect) x y points target sides.0 sides.1 has in
      record {
        picture = copied_to source rect points target;
        there = ap (λ (w : Wanted). get w.shown.surfaces id) (with_copy-there (get wanted.shown.surfaces from) source to rect points found)
            ∙ drawn-there wanted.shown id to (get wanted.shown.surfaces to) target (copied_to source rect points) at there;
        column = subst (λ n. x < n) (sym shape.width) sides.0;
        row = subst (λ n. y < n) (sym shape.height) sides.1;
        is = λ improved. record {
          picture = source;
          there = found;
          point = put.point;
          last = put.last;
          is = ap (λ p. pixel_at p x y) (copies-all source rect points target) ∙ put.is ∙ ap (λ format. shade format (copy-colour source rect put.point x y)) (sym shape.format);
        };
      }

  with_stamps-there : (o : Option Entry) (e : Entry) (to : ℕ) (points : List Point) → o ≡ Some e → with_stamps wanted o to points ≡ drawing wanted to (stamped (sized e.image.width e.image.height) e.image.pixels points)
  unfolding with_stamps
  with_stamps-there o e to points there = ap (λ z. with_stamps wanted z to points) there

  placed-show : (id key to : ℕ) (points : List Point) (e : Entry) (target : Picture) → to ≡ id → bitmap_in wanted.slots (slot_of key wanted.plan.places) ≡ Some e → get wanted.shown.surfaces to ≡ Some target
      → fit_all target.width target.height (sized e.image.width e.image.height) points ≡ true → list_any (λ r. holds r x y) (at_each points (sized e.image.width e.image.height)) ≡ true
      → Placed script wanted (wanted_as script wanted kind (Show key to points)) kind (Show key to points) id x y
  unfolding wanted_as
  placed-show id key to points e target at found there fits has =
      let rect : Rect = sized e.image.width e.image.height in
      let shape = stamps-shape rect e.image.pixels points target in
      let sides = any-inside target.width target.height (at_each points rect) x y (fit-each target.width target.height rect points fits) has in
      let put : PutLast rect (stamp e.image.width e.image.height e.image.pixels) (stamp-colour e.image.width e.image.pixels) x y points target =
      put-pixel rect (stamp e.image.width e.image.height e.image.pixels) (stamp-colour e.image.width e.image.pixels) (stamps-put e.image.width e.image.height e.image.pixels) x y points target sides.0 sides.1 has in
      record {
        picture = stamped rect e.image.pixels points target;
        there = ap (λ (w : Wanted). get w.shown.surfaces id) (with_stamps-there (bitmap_in wanted.slots (slot_of key wanted.plan.places)) e to points found)
            ∙ drawn-there wanted.shown id to (get wanted.shown.surfaces to) target (stamped rect e.image.pixels points) at there;
        column = subst (λ n. x < n) (sym shape.width) sides.0;
        row = subst (λ n. y < n) (sym shape.height) sides.1;
        is = λ improved. record {
          kept = e;
          there = found;
          point = put.point;
          last = put.last;
          is = ap (λ p. pixel_at p x y) (stamps-all e.image.width e.image.height e.image.pixels points target) ∙ put.is
              ∙ ap (λ format. shade format (stamp-colour e.image.width e.image.pixels put.point x y)) (sym shape.format);
        };
      }

-- ---- paints

-- a painted picture, right after its paint
pub record PlacedPicture (script : Script) (new : Wanted) (way : Way) (source : Source) (at : Point) (id x y : ℕ) : Type 0 where
  pub picture : Picture
  pub there : get new.shown.surfaces id ≡ Some picture
  pub column : x < picture.width
  pub row : y < picture.height
  pub is : (improved : ℕ) → IsPainted script.setting way source at picture.format improved x y (pixel_at picture x y)

overlaid-same : (picture : Picture) (rect : Rect) (pixels : List Pixel) → SameShape picture (overlaid picture rect pixels)
unfolding overlaid
overlaid-same picture rect pixels = record { width = refl; height = refl; format = refl }

module _ (script : Script) (wanted : Wanted) (id other number : ℕ) (at : Point) (source : Source) (surface : Picture) (x y : ℕ) (same : other ≡ id)
    (there : get wanted.shown.surfaces other ≡ Some surface) (inside : lies_in surface.width surface.height (place_of source at) ≡ true) (hit : holds (place_of source at) x y ≡ true) where
  sides : (x < surface.width) × (y < surface.height)
  sides = in-sides surface.width surface.height (place_of source at) x y inside hit

  pixels-there : (o : Option Source) (pixels : Source → List Pixel) → o ≡ Some source
      → get (with_pixels wanted o pixels other at).shown.surfaces id ≡ Some (overlaid surface (place_of source at) (pixels source))
  unfolding with_pixels
  pixels-there o pixels drawn =
      ap (λ z. get (with_pixels wanted z pixels other at).shown.surfaces id) drawn
      ∙ drawn-there wanted.shown id other (get wanted.shown.surfaces other) surface (λ picture. overlaid picture (place_of source at) (pixels source)) same there

  placed-raw : (o : Option Source) → o ≡ Some source → PlacedPicture script (with_painting script wanted (Some Uncompressed) o other at) Uncompressed source at id x y
  unfolding with_painting
  placed-raw o drawn =
      let shape = overlaid-same surface (place_of source at) (pixels_in source) in
      record {
        picture = overlaid surface (place_of source at) (pixels_in source);
        there = pixels-there o pixels_in drawn;
        column = subst (λ n. x < n) (sym shape.width) sides.0;
        row = subst (λ n. y < n) (sym shape.height) sides.1;
        is = λ improved. raw-pixel surface source at x y sides.0 sides.1 hit ∙ ap (λ format. shade format (pixel_of source (x - at.x) (y - at.y))) (sym shape.format);
      }

  placed-clear : (layer : Layer) (o : Option Source) → o ≡ Some source → PlacedPicture script (with_painting script wanted (Some (ByLayer layer)) o other at) (ByLayer layer) source at id x y
  unfolding with_painting
  placed-clear layer o drawn =
      let shape = overlaid-same surface (place_of source at) (opaque_in source) in
      record {
        picture = overlaid surface (place_of source at) (opaque_in source);
        there = pixels-there o opaque_in drawn;
        column = subst (λ n. x < n) (sym shape.width) sides.0;
        row = subst (λ n. y < n) (sym shape.height) sides.1;
        is = λ improved. clear-pixel surface source at x y sides.0 sides.1 hit;
      }

  placed-video : (kind : Kind) (named : Option Kind) (glyph : Option ℕ) → way_of script.thin kind ≡ Video → slice_get script.pictures number ≡ Some source → IsPicture surface
      → PlacedPicture script (wanted_as script wanted (Some kind) (Paint other number at named glyph)) Video source at id x y
  placed-video kind named glyph goes drawn is =
      let shows : ShowsVideo script other source at surface (wanted_as script wanted (Some kind) (Paint other number at named glyph)).shown.surfaces =
      video-shows script wanted kind named other number at glyph source surface goes drawn there is in
      let pixel : IsOfVideoTile script.setting source (x - at.x) (y - at.y) (pixel_at shows.picture x y) = shows.inside x y sides.0 sides.1 hit in
      record {
        picture = shows.picture;
        there = ap (get (wanted_as script wanted (Some kind) (Paint other number at named glyph)).shown.surfaces) (sym same) ∙ shows.there;
        column = subst (λ n. x < n) (sym shows.width_stays) sides.0;
        row = subst (λ n. y < n) (sym shows.height_stays) sides.1;
        is = λ improved. record {
          pixels = pixel.pixels;
          nearest = pixel.nearest;
          is = pixel.shows ∙ tile-decoded (record script.setting { transform = Plain }) pixel.pixels pixel.tile ((y - at.y) % 64) ((x - at.x) % 64) pixel.is;
        };
      }

-- by any way but in passes
placed-by : (script : Script) (wanted : Wanted) (id other number : ℕ) (at : Point) (source : Source) (surface : Picture) (x y : ℕ) → other ≡ id
    → get wanted.shown.surfaces other ≡ Some surface → lies_in surface.width surface.height (place_of source at) ≡ true → holds (place_of source at) x y ≡ true
    → (kind : Kind) (named : Option Kind) (glyph : Option ℕ) → is_in_passes (way_of script.thin kind) ≡ false → slice_get script.pictures number ≡ Some source → IsPicture surface
    → (way : Way) → way_of script.thin kind ≡ way → PlacedPicture script (wanted_as script wanted (Some kind) (Paint other number at named glyph)) way source at id x y
unfolding wanted_as
placed-by script wanted id other number at source surface x y same there inside hit kind named glyph apart drawn is Uncompressed goes =
    subst (λ way. PlacedPicture script (with_painting script wanted (Some way) (slice_get script.pictures number) other at) Uncompressed source at id x y) (sym goes)
    (placed-raw script wanted id other number at source surface x y same there inside hit (slice_get script.pictures number) drawn)
placed-by script wanted id other number at source surface x y same there inside hit kind named glyph apart drawn is (ByLayer layer) goes =
    subst (λ way. PlacedPicture script (with_painting script wanted (Some way) (slice_get script.pictures number) other at) (ByLayer layer) source at id x y) (sym goes)
    (placed-clear script wanted id other number at source surface x y same there inside hit layer (slice_get script.pictures number) drawn)
placed-by script wanted id other number at source surface x y same there inside hit kind named glyph apart drawn is InPasses goes =
    absurd (let both : true ≡ false = sym (ap is_in_passes goes) ∙ apart in cc)
placed-by script wanted id other number at source surface x y same there inside hit kind named glyph apart drawn is Video goes =
    placed-video script wanted id other number at source surface x y same there inside hit kind named glyph goes drawn is

-- ---- steps

-- a picture of a surface that is there at the server's end is what is wanted there
pub wanted-there : (script : Script) (wanted : Wanted) (step : Step) (kind : Option Kind) (h : Here script wanted (as_kind kind step)) (id : ℕ) (surface : Picture) → get h.server.state.shown.surfaces id ≡ Some surface
    → get wanted.shown.surfaces id ≡ Some surface
wanted-there script wanted step kind h id surface there = ap (λ (s : Shown). get s.surfaces id) (sym h.stands.agrees.shown) ∙ there

placed-paint : (script : Script) (wanted : Wanted) (kind : Option Kind) (id other number : ℕ) (at : Point) (named : Option Kind) (glyph : Option ℕ) (x y : ℕ) → ArePictures wanted.shown.surfaces
    → (source : Source) (surface : Picture) → slice_get script.pictures number ≡ Some source → get wanted.shown.surfaces other ≡ Some surface → lies_in surface.width surface.height (place_of source at) ≡ true
    → HasKind (as_kind kind (Paint other number at named glyph)) → goes_in_passes (goes_by script.thin kind) ≡ false → other ≡ id → holds (place_of source at) x y ≡ true
    → Placed script wanted (wanted_as script wanted kind (Paint other number at named glyph)) kind (Paint other number at named glyph) id x y
placed-paint script wanted None id other number at named glyph x y are source surface drawn there inside fits apart same hit = absurd (let f : false ≡ true = fits.0 in cc)
placed-paint script wanted (Some kind) id other number at named glyph x y are source surface drawn there inside fits apart same hit =
    let p : PlacedPicture script (wanted_as script wanted (Some kind) (Paint other number at named glyph)) (way_of script.thin kind) source at id x y =
    placed-by script wanted id other number at source surface x y same there inside hit kind named glyph apart drawn (are other surface there) (way_of script.thin kind) refl in
    record {
      picture = p.picture;
      there = p.there;
      column = p.column;
      row = p.row;
      is = λ improved. record { source = source; drawn = drawn; named = kind; goes = refl; is = p.is improved };
    }

-- what a copy is checked for
record MayCopy (surfaces : Surfaces) (from to : ℕ) (rect : Rect) (points : List Point) : Type 0 where
  source : Picture
  found : get surfaces from ≡ Some source
  target : Picture
  there : get surfaces to ≡ Some target
  fits : fit_all target.width target.height rect points ≡ true

may_copy : (held after : Held) (surfaces : Surfaces) (from to : ℕ) (rect : Rect) (points : List Point) → HoldsSurfaces held.sides held.cells surfaces → rect_copied held from to rect points ≡ Ok after → MayCopy surfaces from to rect points
unfolding rect_copied
may_copy held after surfaces from to rect points holds checked =
    let first = and_then_ok (ok_or (get held.sides from) fault.SurfaceAbsent) _ after checked in
    let source = found_there held surfaces from first.0 holds first.1 in
    let second = and_then_ok (ok_or (get held.sides to) fault.SurfaceAbsent) _ after first.2 in
    let target = found_there held surfaces to second.0 holds second.1 in
    let third = and_then_ok (check fault.Outside (lies_in first.0.width first.0.height rect)) _ after second.2 in
    let last = and_then_ok (check fault.Outside (fit_all second.0.width second.0.height rect points)) _ after third.2 in
    record {
      source = source.picture;
      found = source.there;
      target = target.picture;
      there = target.there;
      fits = ap (λ (s : Sides). fit_all s.width s.height rect points) target.same ∙ check_ok fault.Outside (fit_all second.0.width second.0.height rect points) last.1;
    }

-- where a bitmap is shown
shown-rects : (o : Option Sides) (sides : Sides) (to id x y : ℕ) (points : List Point) → o ≡ Some sides → HasPixel (option_map (λ (s : Sides). area to (at_each points (sized s.width s.height))) o) id x y
    → (to ≡ id) × (list_any (λ r. holds r x y) (at_each points (sized sides.width sides.height)) ≡ true)
shown-rects o sides to id x y points is has = rw is at has

pub painted-rects : (o : Option Source) (source : Source) (at : Point) (other id x y : ℕ) → o ≡ Some source → HasPixel (option_map (λ source. area other (place_of source at ∷ [])) o) id x y
    → (other ≡ id) × (holds (place_of source at) x y ≡ true)
painted-rects o source at other id x y is has =
    let both : (other ≡ id) × ((holds (place_of source at) x y || false) ≡ true) = rw is at has in
    (both.0, only (holds (place_of source at) x y) both.1)

pub placed : (script : Script) (wanted : Wanted) (kind : Option Kind) (step : Step) (id x y : ℕ) (h : Here script wanted (as_kind kind step)) → ArePictures wanted.shown.surfaces
    → HasPixel (writes_at script wanted step) id x y → goes_in_passes (goes_by script.thin kind) ≡ false → Placed script wanted (wanted_as script wanted kind step) kind step id x y
unfolding writes_by held_after
placed script wanted kind (Surface other width height format) id x y h are has apart = placed-made script wanted kind x y id other width height format has.0 has.1
placed script wanted kind (Delete other) id x y h are has apart = absurd has
placed script wanted kind (Reset width height) id x y h are has apart = absurd has
placed script wanted kind (Map other a b) id x y h are has apart = absurd has
placed script wanted kind (Fill other colour rects) id x y h are has apart =
    let may = (may_fill h.held h.after h.server.state.shown.surfaces other rects h.stands.holds.surfaces h.checked).0 in
    placed-fill script wanted kind x y id other colour rects may.picture has.0 (wanted-there script wanted (Fill other colour rects) kind h other may.picture may.there) may.inside has.1
placed script wanted kind (Copy from to rect points) id x y h are has apart =
    let may = may_copy h.held h.after h.server.state.shown.surfaces from to rect points h.stands.holds.surfaces h.checked in
    placed-copy script wanted kind x y id from to rect points may.source may.target has.0
    (wanted-there script wanted (Copy from to rect points) kind h from may.source may.found) (wanted-there script wanted (Copy from to rect points) kind h to may.target may.there) may.fits has.1
placed script wanted kind (Keep other key rect) id x y h are has apart = absurd has
placed script wanted kind (Show key to points) id x y h are has apart =
    let may : MayShow h.server h.held h.after key to points = may_show script h.server h.held h.after key to points (seen script h.held h.server h.stands.holds) h.checked in
    let slot : slot_of key wanted.plan.places ≡ Some may.slot = ap (λ (p : Plan). slot_of key p.places) (sym h.stands.agrees.plan) ∙ may.is in
    let found : bitmap_in wanted.slots (slot_of key wanted.plan.places) ≡ Some may.shows.entry = ap (bitmap_in wanted.slots) slot ∙ ap (λ z. get z may.slot) (sym h.stands.agrees.slots) ∙ may.shows.there in
    let sides : sides_kept wanted.plan wanted.slots key ≡ Some (sides_in may.shows.entry) = ap (option_map sides_in) found in
    let rects = shown-rects (sides_kept wanted.plan wanted.slots key) (sides_in may.shows.entry) to id x y points sides has in
    placed-show script wanted kind x y id key to points may.shows.entry may.target rects.0 found (wanted-there script wanted (Show key to points) kind h to may.target may.there) may.fits rects.1
placed script wanted kind (Forget key) id x y h are has apart = absurd has
placed script wanted kind (Paint other number at named glyph) id x y h are has apart =
    let may : MayPaint script h.server other number at glyph = (may_paint script h.server h.held h.after other number at named glyph (seen script h.held h.server h.stands.holds) h.numbers.1 h.numbers.2 h.checked).0 in
    let rects = painted-rects (slice_get script.pictures number) may.picture at other id x y may.drawn has in
    placed-paint script wanted kind id other number at named glyph x y are may.picture may.surface may.drawn (wanted-there script wanted (Paint other number at named glyph) kind h other may.surface may.there) may.inside
    h.kind apart rects.0 rects.1
placed script wanted kind (Improve other) id x y h are has apart = absurd has
placed script wanted kind Frame id x y h are has apart = absurd has
