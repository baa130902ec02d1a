-- What a paint in passes shows, pixel by pixel: this project's own promise.
use Rattle.std.specs.Prelude.{◌≡◌, ◌⊎◌, ℕ, ◌+◌, ◌-◌, ◌*◌, ◌/◌, ◌%◌, ◌<◌, min, true, false, List, length, Option, Some}
use Rattle.std.specs.FinMap.{get}
use Rattle.std.specs.List.{slice_get, slice_index_or}
use Rattle.gfx_base.specs.declared.geometry.Point.{Point}
use Rattle.gfx_base.specs.declared.pixel.Pixel.{Pixel}
use Rattle.gfx_base.specs.Cells.{cell}
use Rattle.gfx_base.specs.Geometry.{holds}
use Rattle.gfx_prog_live.specs.Cells.{cell_key}
use Rattle.gfx_prog_encode.specs.declared.send.TileSend.{TileSend}
use Rattle.gfx_quant.specs.declared.quant.Component.{Component}
use Rattle.gfx_quant.specs.declared.setting.Setting.{Setting}
use Rattle.gfx_script.specs.declared.picture.Picture.{Picture as Source}
use Rattle.gfx_script.specs.declared.step.Kind.{Kind}
use Rattle.gfx_script.specs.declared.step.Step.TheVariants.{Paint}
use Rattle.gfx_script.specs.Kinds.{as_kind}
use Rattle.gfx_script.specs.Patterns.{pixel_of}
use Rattle.gfx_script.specs.Scripted.{Script}
use Rattle.gfx_script.specs.Ways.{way_of}
use Rattle.gfx_script.specs.declared.way.Way.TheVariants.{InPasses}
use Rattle.gfx_script.specs.Writes.{place_of}
use Rattle.gfx_surface.specs.Picture.{Picture, no_pixel, pixel_at}
use Rattle.gfx_surface_map.specs.Surfaces.{Surfaces}
use Rattle.gfx_tile_make.specs.Levels.{shown_at}
use Rattle.gfx_tile_make.specs.Quantised.{quantised_plane}
use Rattle.gfx_tile_make.specs.Source.{SourceTile, planes_of}
use Rattle.gfx_tile_state.specs.Passes.{blank}
use Rattle.gfx_planner.specs.Wanted.{Wanted}
use Rattle.gfx_planner.specs.Want.{wanted_after}

-- the pixel of a picture that is nearest to a place of its surface, where its top left corner lies at a point
abbrev pub nearest_pixel : Source → Point → ℕ → ℕ → Pixel
nearest_pixel source at x y = pixel_of source (min (x - at.x) (source.width - 1)) (min (y - at.y) (source.height - 1))

-- the pixels of a cell, row by row in rows of 64, are those of a picture, and outside of it the nearest ones
pub record AreNearest (source : Source) (at : Point) (column row : ℕ) (pixels : List Pixel) : Type 0 where
  pub whole : length pixels ≡ 4096
  pub each : (x y : ℕ) → x < 64 → y < 64 → slice_index_or pixels (y * 64 + x) no_pixel ≡ nearest_pixel source at (64 * column + x) (64 * row + y)

-- a tile's own values are these pixels, quantised
pub record IsTileOf (setting : Setting) (pixels : List Pixel) (tile : SourceTile) : Type 0 where
  pub coded : tile.setting ≡ setting
  pub values : (component : Component) → (planes_of tile component).own ≡ quantised_plane setting component pixels

-- a tile goes on another, which was sent at the last level: on that one's own values
pub record GoesOn (old : TileSend) (tile : SourceTile) : Type 0 where
  pub finished : old.level ≡ length old.tile.setting.levels
  pub kept : (component : Component) → (planes_of tile component).kept ≡ (planes_of old.tile component).own

-- it goes on nothing, or on what is live in its cell
abbrev pub GoesOnAny : Option TileSend → SourceTile → Type 0
GoesOnAny before tile = ((component : Component) → (planes_of tile component).kept ≡ blank) ⊎ ((old : TileSend) × ((before ≡ Some old) × GoesOn old tile))

-- a pixel at column x of row y of a surface is that of its cell's tile at the first level
pub record IsOfTile (setting : Setting) (before : Option TileSend) (source : Source) (at : Point) (x y : ℕ) (pixel : Pixel) : Type 0 where
  pub pixels : List Pixel
  pub nearest : AreNearest source at (x / 64) (y / 64) pixels
  pub tile : SourceTile
  pub is : IsTileOf setting pixels tile
  pub goes_on : GoesOnAny before tile
  pub shows : pixel ≡ shown_at tile 0 (y % 64) (x % 64)

-- a surface shows a picture at a place as its tiles do, and is as it was elsewhere
pub record ShowsTiles (script : Script) (wanted : Wanted) (id : ℕ) (source : Source) (at : Point) (old : Picture) (surfaces : Surfaces) : Type 0 where
  pub picture : Picture
  pub there : get surfaces id ≡ Some picture
  pub width_stays : picture.width ≡ old.width
  pub height_stays : picture.height ≡ old.height
  pub inside : (x y : ℕ) → x < old.width → y < old.height → holds (place_of source at) x y ≡ true
      → IsOfTile script.setting (get wanted.passes.live (cell_key id (cell (x / 64) (y / 64)))) source at x y (pixel_at picture x y)
  pub outside : (x y : ℕ) → x < old.width → y < old.height → holds (place_of source at) x y ≡ false → pixel_at picture x y ≡ pixel_at old x y

-- so right after a paint in passes
abbrev pub PaintsInPassesShowTheirSource : Type 0
PaintsInPassesShowTheirSource =
    (script : Script) (wanted : Wanted) (kind : Kind) (named : Option Kind) (id number : ℕ) (at : Point) (glyph : Option ℕ) (source : Source) (surface : Picture)
    → way_of script.thin kind ≡ InPasses → slice_get script.pictures number ≡ Some source → get wanted.shown.surfaces id ≡ Some surface
    → ShowsTiles script wanted id source at surface (wanted_after script wanted (as_kind (Some kind) (Paint id number at named glyph))).shown.surfaces
