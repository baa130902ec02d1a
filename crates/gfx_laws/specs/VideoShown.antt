-- What a paint that goes as video shows, in other words than those by which it is sent: this project's own promise.
use Rattle.std.specs.Prelude.{◌≡◌, ◌-◌, ◌/◌, ◌%◌, ◌<◌, ℕ, true, false, List, Option, Some}
use Rattle.std.specs.FinMap.{get}
use Rattle.std.specs.List.{slice_get}
use Rattle.gfx_base.specs.declared.geometry.Point.{Point}
use Rattle.gfx_base.specs.declared.pixel.Pixel.{Pixel}
use Rattle.gfx_base.specs.Geometry.{holds}
use Rattle.gfx_dwt.specs.declared.layout.Transform.TheVariants.{Plain}
use Rattle.gfx_quant.specs.declared.quant.Component.{Component}
use Rattle.gfx_quant.specs.declared.setting.Setting.{Setting}
use Rattle.gfx_script.specs.declared.picture.Picture.{Picture as Source}
use Rattle.gfx_script.specs.declared.step.Kind.{Kind}
use Rattle.gfx_script.specs.declared.step.Step.TheVariants.{Paint}
use Rattle.gfx_script.specs.declared.way.Way.TheVariants.{Video}
use Rattle.gfx_script.specs.Kinds.{as_kind}
use Rattle.gfx_script.specs.Scripted.{Script}
use Rattle.gfx_script.specs.Ways.{way_of}
use Rattle.gfx_script.specs.Writes.{place_of}
use Rattle.gfx_surface.specs.Picture.{IsPicture, Picture, pixel_at}
use Rattle.gfx_surface_map.specs.Surfaces.{Surfaces}
use Rattle.gfx_tile_make.specs.Levels.{direct_pixel}
use Rattle.gfx_tile_make.specs.Source.{SourceTile, planes_of}
use Rattle.gfx_tile_state.specs.Passes.{blank}
use Rattle.gfx_planner.specs.Wanted.{Wanted}
use Rattle.gfx_planner.specs.Want.{wanted_after}
use Rattle.gfx_laws.specs.PassesShown.{AreNearest, IsTileOf}

-- a picture's own corner
abbrev pub corner : Point
corner = record { x = 0; y = 0 }

-- a pixel at column x of row y of a picture is that of the tile of its square of 64 by 64: of the picture's pixels there,
-- by the plain transform, on nothing
pub record IsOfVideoTile (setting : Setting) (source : Source) (x y : ℕ) (pixel : Pixel) : Type 0 where
  pub pixels : List Pixel
  pub nearest : AreNearest source corner (x / 64) (y / 64) pixels
  pub tile : SourceTile
  pub is : IsTileOf (record setting { transform = Plain }) pixels tile
  pub alone : (component : Component) → (planes_of tile component).kept ≡ blank
  pub shows : pixel ≡ direct_pixel tile (y % 64) (x % 64)

-- a surface shows a picture at a place as its tiles of video do, and is as it was elsewhere
pub record ShowsVideo (script : Script) (id : ℕ) (source : Source) (at : Point) (old : Picture) (surfaces : Surfaces) : Type 0 where
  pub picture : Picture
  pub there : get surfaces id ≡ Some picture
  pub width_stays : picture.width ≡ old.width
  pub height_stays : picture.height ≡ old.height
  pub inside : (x y : ℕ) → x < old.width → y < old.height → holds (place_of source at) x y ≡ true → IsOfVideoTile script.setting source (x - at.x) (y - at.y) (pixel_at picture x y)
  pub outside : (x y : ℕ) → x < old.width → y < old.height → holds (place_of source at) x y ≡ false → pixel_at picture x y ≡ pixel_at old x y

-- so right after a paint that goes as video
abbrev pub VideoPaintsShowTheirSource : Type 0
VideoPaintsShowTheirSource =
    (script : Script) (wanted : Wanted) (kind : Kind) (named : Option Kind) (id number : ℕ) (at : Point) (glyph : Option ℕ) (source : Source) (surface : Picture)
    → way_of script.thin kind ≡ Video → slice_get script.pictures number ≡ Some source → get wanted.shown.surfaces id ≡ Some surface → IsPicture surface
    → ShowsVideo script id source at surface (wanted_after script wanted (as_kind (Some kind) (Paint id number at named glyph))).shown.surfaces
