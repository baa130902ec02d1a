-- A paint that goes as video shows its picture.
use Rattle.std.proofs.Common.{◌≡◌, ◌∙◌, ◌-◌, ◌*◌, ◌+◌, ◌/◌, ◌%◌, ◌<◌, ◌≤◌, ℕ, Bool, cond, Option, Some, min, refl, sym, ap, subst, arith}
use Rattle.std.specs.FinMap.{get, insert}
use Rattle.std.specs.List.{slice_get}
use Rattle.gfx_base.specs.declared.format.Format.{Format}
use Rattle.gfx_base.specs.declared.format.Format.TheVariants.{Xrgb, Argb}
use Rattle.gfx_base.specs.declared.geometry.Point.{Point}
use Rattle.gfx_base.specs.declared.pixel.Pixel.{Pixel}
use Rattle.gfx_base.specs.Cells.{cell}
use Rattle.gfx_base.specs.Geometry.{holds}
use Rattle.gfx_prog_live.specs.Tiles.{cell_pixels, nearest}
use Rattle.gfx_quant.specs.declared.setting.Setting.{Setting}
use Rattle.gfx_rfx_video.specs.Showing.{drawn_where}
use Rattle.gfx_script.specs.declared.picture.Picture.{Picture as Source}
use Rattle.gfx_script.specs.Patterns.{pixel_of}
use Rattle.gfx_script.specs.Scripted.{Script}
use Rattle.gfx_script.specs.Ways.{is_video, way_of}
use Rattle.gfx_script.specs.Writes.{place_of}
use Rattle.gfx_surface.proofs.PictureLemmas.{length-drawn, pixel_at-drawn}
use Rattle.gfx_surface.specs.Picture.{Picture, no_pixel, pixel_at, shade}
use Rattle.gfx_tile_make.specs.Levels.{direct_pixel}
use Rattle.gfx_tile_make.specs.Source.{SourceTile, source_of}
use Rattle.gfx_video_paint.proofs.Cover.{paints-cover, placed-filled}
use Rattle.gfx_video_paint.specs.Shown.{shown_as_video, video_pixel}
use Rattle.gfx_video_paint.specs.Video.{laid, video_setting, video_tile}
use Rattle.gfx_planner.specs.Wanted.{Wanted}
use Rattle.gfx_planner.specs.SurfaceEffects.{drawn_on}
use Rattle.gfx_planner.specs.PaintEffects.{with_video}
use Rattle.gfx_planner.specs.Want.{wanted_as}
use Rattle.gfx_planner.specs.Holds.{sides_of}
use Rattle.gfx_planner.proofs.PaintSteps.{painted_as_video}
use Rattle.gfx_planner.proofs.TilesAccepted.{surface_here}
use Rattle.gfx_planner.proofs.VideoSteps.{video_sides}
use Rattle.gfx_laws.specs.PassesShown.{AreNearest}
use Rattle.gfx_laws.specs.VideoShown.{IsOfVideoTile, VideoPaintsShowTheirSource, corner}
use Rattle.gfx_laws.proofs.Nearest.{has-height, has-width}
use Rattle.gfx_laws.proofs.Painted.{plain-kept, plain-values}

-- ---- a square's pixels

near : (side place : ℕ) → 1 ≤ side → nearest 0 side place ≡ min (place - 0) (side - 1)
near side place some = omega (arith, some)

square-nearest : (source : Source) (column row : ℕ) → 1 ≤ source.width → 1 ≤ source.height → AreNearest source corner column row (cell_pixels source (laid source) (cell column row))
unfolding cell_pixels
square-nearest source column row wide high = record {
  whole = length-drawn 64 64 drawer;
  each = λ x y across down.
      pixel_at-drawn 64 64 x y drawer no_pixel across down
      ∙ (λ i. pixel_of source (near source.width (64 * column + x) wide i) (near source.height (64 * row + y) high i));
}
  where
    drawer : ℕ → ℕ → Pixel
    drawer x y = pixel_of source (nearest 0 source.width (64 * column + x)) (nearest 0 source.height (64 * row + y))

-- ---- a pixel

-- a format keeps a tile's pixel, which is opaque
direct-kept : (format : Format) (tile : SourceTile) (y x : ℕ) → shade format (direct_pixel tile y x) ≡ direct_pixel tile y x
direct-kept Xrgb tile y x = refl
direct-kept Argb tile y x = refl

-- a picture's pixel as video
of-tile : (setting : Setting) (source : Source) (x y : ℕ) → 1 ≤ source.width → 1 ≤ source.height → IsOfVideoTile setting source x y (video_pixel setting source x y)
unfolding video_pixel video_tile
of-tile setting source x y wide high = record {
  pixels = cell_pixels source (laid source) (cell (x / 64) (y / 64));
  nearest = square-nearest source (x / 64) (y / 64) wide high;
  tile = source_of (video_setting setting) (cell_pixels source (laid source) (cell (x / 64) (y / 64)));
  is = record { coded = refl; values = plain-values (video_setting setting) (cell_pixels source (laid source) (cell (x / 64) (y / 64))) };
  alone = plain-kept (video_setting setting) (cell_pixels source (laid source) (cell (x / 64) (y / 64)));
  shows = refl;
}

-- which a format keeps
pixel-kept : (format : Format) (setting : Setting) (source : Source) (x y : ℕ) → shade format (video_pixel setting source x y) ≡ video_pixel setting source x y
unfolding video_pixel
pixel-kept format setting source x y = direct-kept format (video_tile setting source (cell (x / 64) (y / 64))).tile (y % 64) (x % 64)

-- what is drawn on a surface where a test holds
where-holds : (surface : Picture) (test : ℕ → ℕ → Bool) (colour : ℕ → ℕ → Pixel) (x y : ℕ) → x < surface.width → y < surface.height
    → pixel_at (drawn_where test colour surface) x y ≡ cond (test x y) (shade surface.format (colour x y)) (pixel_at surface x y)
where-holds surface test colour x y column row =
    pixel_at-drawn surface.width surface.height x y (λ a b. cond (test a b) (shade surface.format (colour a b)) (pixel_at surface a b)) no_pixel column row

-- ---- a paint

surfaces-after : (script : Script) (wanted : Wanted) (o : Option Source) (id : ℕ) (at : Point) (source : Source) (surface : Picture) → o ≡ Some source → get wanted.shown.surfaces id ≡ Some surface
    → (with_video script wanted o id at).shown.surfaces ≡ insert wanted.shown.surfaces id (shown_as_video script.setting source (place_of source at) surface)
unfolding with_video drawn_on
surfaces-after script wanted o id at source surface drawn there =
    ap (λ z. (with_video script wanted z id at).shown.surfaces) drawn
    ∙ ap (λ z. (drawn_on wanted.shown id z (shown_as_video script.setting source (place_of source at))).surfaces) there

pub video-shows : VideoPaintsShowTheirSource
unfolding wanted_as
video-shows script wanted kind named id number at glyph source surface goes drawn there is = record {
  picture = after;
  there = ap (λ (w : Wanted). get w.shown.surfaces id) (painted_as_video script wanted (Some (way_of script.thin kind)) (slice_get script.pictures number) id at (ap is_video goes))
      ∙ ap (λ m. get m id) (surfaces-after script wanted (slice_get script.pictures number) id at source surface drawn there) ∙ surface_here wanted.shown.surfaces id after id refl;
  width_stays = ap (λ s. s.width) sides;
  height_stays = ap (λ s. s.height) sides;
  inside = λ x y column row hit.
      subst (IsOfVideoTile script.setting source (x - at.x) (y - at.y))
      (sym (seen x y column row
      ∙ ap (λ b. cond b (shade surface.format (colour x y)) (pixel_at surface x y)) hit
      ∙ pixel-kept surface.format script.setting source (x - at.x) (y - at.y)))
      (of-tile script.setting source (x - at.x) (y - at.y) (has-width source at x y hit) (has-height source at x y hit));
  outside = λ x y column row miss. seen x y column row ∙ ap (λ b. cond b (shade surface.format (colour x y)) (pixel_at surface x y)) miss;
}
  where
    after : Picture
    after = shown_as_video script.setting source (place_of source at) surface

    sides : sides_of after ≡ sides_of surface
    sides = video_sides script.setting source (place_of source at) surface

    colour : ℕ → ℕ → Pixel
    colour x y = video_pixel script.setting source (x - at.x) (y - at.y)

    seen : (x y : ℕ) → x < surface.width → y < surface.height → pixel_at after x y ≡ cond (holds (place_of source at) x y) (shade surface.format (colour x y)) (pixel_at surface x y)
    seen x y column row =
        ap (λ p. pixel_at p x y) (paints-cover script.setting source (place_of source at) surface is (placed-filled source at))
        ∙ where-holds surface (holds (place_of source at)) colour x y column row
