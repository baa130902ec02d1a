-- What a paint by ClearCodec shows is its source: this project's own promise.
use Rattle.std.specs.Prelude.{◌≡◌, ℕ, ◌+◌, ◌<◌, true, Option, Some}
use Rattle.std.specs.FinMap.{get}
use Rattle.std.specs.List.{slice_get}
use Rattle.gfx_base.specs.Geometry.{lies_in}
use Rattle.gfx_base.specs.declared.geometry.Point.{Point}
use Rattle.gfx_base.specs.Colour.{colour_of, opaque}
use Rattle.gfx_surface.specs.Picture.{Picture, pixel_at}
use Rattle.gfx_surface_map.specs.Surfaces.{Surfaces}
use Rattle.gfx_script.specs.declared.picture.Picture.{Picture as Source}
use Rattle.gfx_script.specs.declared.step.Kind.{Kind}
use Rattle.gfx_script.specs.declared.step.Step.TheVariants.{Paint}
use Rattle.gfx_script.specs.Kinds.{as_kind}
use Rattle.gfx_script.specs.Patterns.{pixel_of}
use Rattle.gfx_script.specs.Scripted.{Script}
use Rattle.gfx_script.specs.Ways.{is_stream, way_of}
use Rattle.gfx_script.specs.Writes.{place_of}
use Rattle.gfx_planner.specs.Wanted.{Wanted}
use Rattle.gfx_planner.specs.Want.{wanted_after}

-- a surface shows a picture at a place: each of its pixels in its blue, green and red, and opaque
pub record ShowsSource (surfaces : Surfaces) (id : ℕ) (source : Source) (at : Point) : Type 0 where
  pub picture : Picture
  pub there : get surfaces id ≡ Some picture
  pub each : (x y : ℕ) → x < source.width → y < source.height → pixel_at picture (at.x + x) (at.y + y) ≡ opaque (colour_of (pixel_of source x y))

-- so right after a paint by ClearCodec that lies on its surface; and as long as no later step writes there, since a
-- step changes no pixel outside of where it writes
abbrev pub ClearPaintsShowTheirSource : Type 0
ClearPaintsShowTheirSource =
    (script : Script) (wanted : Wanted) (kind : Kind) (named : Option Kind) (id number : ℕ) (at : Point) (glyph : Option ℕ) (source : Source) (surface : Picture)
    → is_stream (way_of script.thin kind) ≡ true → slice_get script.pictures number ≡ Some source → get wanted.shown.surfaces id ≡ Some surface → lies_in surface.width surface.height (place_of source at) ≡ true
    → ShowsSource (wanted_after script wanted (as_kind (Some kind) (Paint id number at named glyph))).shown.surfaces id source at
