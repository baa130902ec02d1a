-- A paint in passes shows its picture.
use Rattle.std.proofs.Common.{◌≡◌, ◌∙◌, ◌-◌, ◌*◌, ◌/◌, ◌%◌, ◌<◌, ℕ, Bool, true, List, Option, Some, inl, inr, refl, ap, arith}
use Rattle.std.specs.FinMap.{get, insert}
use Rattle.std.specs.List.{slice_get}
use Rattle.gfx_base.specs.declared.geometry.Point.{Point}
use Rattle.gfx_base.specs.declared.pixel.Pixel.{Pixel}
use Rattle.gfx_base.specs.Cells.{cell}
use Rattle.gfx_base.specs.Geometry.{holds}
use Rattle.gfx_prog_live.specs.Cells.{cell_key}
use Rattle.gfx_prog_live.specs.Live.{Live, painted_sends, send_of}
use Rattle.gfx_prog_live.specs.Showing.{after_showing}
use Rattle.gfx_prog_live.specs.Tiles.{cell_pixels, gone_on}
use Rattle.gfx_prog_law.proofs.Going.{gone-by}
use Rattle.gfx_prog_law.proofs.Seen.{SameShape, painted-pixel, passes-wrote, showing-shape}
use Rattle.gfx_prog_encode.specs.declared.send.TileSend.{TileSend}
use Rattle.gfx_quant.specs.declared.quant.Component.{Component}
use Rattle.gfx_quant.specs.declared.quant.Component.TheVariants.{Y, Cb, Cr}
use Rattle.gfx_quant.specs.declared.setting.Setting.{Setting}
use Rattle.gfx_script.specs.declared.picture.Picture.{Picture as Source}
use Rattle.gfx_script.specs.Scripted.{Script}
use Rattle.gfx_script.specs.Ways.{is_in_passes, way_of}
use Rattle.gfx_script.specs.Writes.{place_of}
use Rattle.gfx_surface.specs.Picture.{Picture, pixel_at}
use Rattle.gfx_tile_make.specs.Levels.{shown_at}
use Rattle.gfx_tile_make.specs.Quantised.{quantised_plane}
use Rattle.gfx_tile_make.specs.Source.{SourceTile, difference_of, planes_of, source_of}
use Rattle.gfx_tile_state.specs.Passes.{blank}
use Rattle.gfx_planner.specs.Wanted.{Wanted}
use Rattle.gfx_planner.specs.SurfaceEffects.{drawn_on}
use Rattle.gfx_planner.specs.TileEffects.{with_tiles}
use Rattle.gfx_planner.specs.Want.{wanted_as}
use Rattle.gfx_planner.proofs.LiveShown.{tile-kept}
use Rattle.gfx_planner.proofs.Ways.{painted_in_passes}
use Rattle.gfx_planner.proofs.TilesAccepted.{surface_here}
use Rattle.gfx_laws.specs.PassesShown.{GoesOnAny, IsOfTile, IsTileOf, PaintsInPassesShowTheirSource}
use Rattle.gfx_laws.proofs.Nearest.{cell-nearest, has-height, has-width}

-- ---- a tile

-- a tile of pixels goes on nothing
pub plain-values : (setting : Setting) (pixels : List Pixel) (component : Component) → (planes_of (source_of setting pixels) component).own ≡ quantised_plane setting component pixels
plain-values setting pixels Y = refl
plain-values setting pixels Cb = refl
plain-values setting pixels Cr = refl

pub plain-kept : (setting : Setting) (pixels : List Pixel) (component : Component) → (planes_of (source_of setting pixels) component).kept ≡ blank
plain-kept setting pixels Y = refl
plain-kept setting pixels Cb = refl
plain-kept setting pixels Cr = refl

-- one that goes on another has its own values still
onto-values : (tile old : SourceTile) (component : Component) → (planes_of (difference_of tile old) component).own ≡ (planes_of tile component).own
onto-values tile old Y = refl
onto-values tile old Cb = refl
onto-values tile old Cr = refl

pub onto-kept : (tile old : SourceTile) (component : Component) → (planes_of (difference_of tile old) component).kept ≡ (planes_of old component).own
onto-kept tile old Y = refl
onto-kept tile old Cb = refl
onto-kept tile old Cr = refl

-- so whatever was live in its cell
pub tile-is : (setting : Setting) (pixels : List Pixel) (differences : Bool) (before : Option TileSend) → IsTileOf setting pixels (gone_on differences before (source_of setting pixels))
tile-is setting pixels differences before =
    gone-by (IsTileOf setting pixels) differences before (source_of setting pixels) record { coded = refl; values = plain-values setting pixels }
    (λ old last. record { coded = refl; values = λ component. onto-values (source_of setting pixels) old.tile component ∙ plain-values setting pixels component })

tile-goes-on : (setting : Setting) (pixels : List Pixel) (differences : Bool) (before : Option TileSend) → GoesOnAny before (gone_on differences before (source_of setting pixels))
tile-goes-on setting pixels differences before =
    gone-by (GoesOnAny before) differences before (source_of setting pixels) (inl (plain-kept setting pixels))
    (λ old last. inr (old, (last.0, record { finished = last.1.0; kept = onto-kept (source_of setting pixels) old.tile })))

-- ---- a pixel

-- the place in its cell
in-cell : (at : ℕ) → at - 64 * (at / 64) ≡ at % 64
in-cell at = omega arith

pixel-is : (script : Script) (live : Live) (id : ℕ) (source : Source) (at : Point) (surface : Picture) (x y : ℕ) → x < surface.width → y < surface.height → holds (place_of source at) x y ≡ true
    → IsOfTile script.setting (get live (cell_key id (cell (x / 64) (y / 64)))) source at x y (pixel_at (after_showing id (painted_sends script live id source (place_of source at)) surface) x y)
unfolding send_of
pixel-is script live id source at surface x y column row hit = record {
  pixels = pixels;
  nearest = cell-nearest source at (x / 64) (y / 64) (has-width source at x y hit) (has-height source at x y hit);
  tile = tile;
  is = tile-is script.setting pixels script.differences before;
  goes_on = tile-goes-on script.setting pixels script.differences before;
  shows =
      painted-pixel script live id source (place_of source at) surface x y column row hit
      ∙ tile-kept surface.format tile 0 (y - 64 * (y / 64)) (x - 64 * (x / 64))
      ∙ (λ i. shown_at tile 0 (in-cell y i) (in-cell x i));
}
  where
    before : Option TileSend
    before = get live (cell_key id (cell (x / 64) (y / 64)))

    pixels : List Pixel
    pixels = cell_pixels source (place_of source at) (cell (x / 64) (y / 64))

    tile : SourceTile
    tile = gone_on script.differences before (source_of script.setting pixels)

-- ---- a paint

surfaces-after : (script : Script) (wanted : Wanted) (o : Option Source) (id : ℕ) (at : Point) (source : Source) (surface : Picture) → o ≡ Some source → get wanted.shown.surfaces id ≡ Some surface
    → (with_tiles script wanted o id at).shown.surfaces ≡ insert wanted.shown.surfaces id (after_showing id (painted_sends script wanted.passes.live id source (place_of source at)) surface)
unfolding with_tiles drawn_on
surfaces-after script wanted o id at source surface drawn there =
    ap (λ z. (with_tiles script wanted z id at).shown.surfaces) drawn
    ∙ ap (λ z. (drawn_on wanted.shown id z (after_showing id (painted_sends script wanted.passes.live id source (place_of source at)))).surfaces) there

pub paints-show : PaintsInPassesShowTheirSource
unfolding wanted_as
paints-show script wanted kind named id number at glyph source surface goes drawn there = record {
  picture = after;
  there = ap (λ (w : Wanted). get w.shown.surfaces id) (painted_in_passes script wanted (Some (way_of script.thin kind)) (slice_get script.pictures number) id at (ap is_in_passes goes))
      ∙ ap (λ m. get m id) (surfaces-after script wanted (slice_get script.pictures number) id at source surface drawn there) ∙ surface_here wanted.shown.surfaces id after id refl;
  width_stays = shape.width;
  height_stays = shape.height;
  inside = λ x y column row hit. pixel-is script wanted.passes.live id source at surface x y column row hit;
  outside = λ x y column row miss. passes-wrote script wanted.passes.live id source (place_of source at) surface x y column row miss;
}
  where
    after : Picture
    after = after_showing id (painted_sends script wanted.passes.live id source (place_of source at)) surface

    shape : SameShape surface after
    shape = showing-shape id (painted_sends script wanted.passes.live id source (place_of source at)) surface
