-- What a paint shows of its picture, by the way in which the picture goes. Which ways there are is [MS-RDPEGFX] 2.2.4's;
-- which paint goes in which is this project's own rule (gfx_script/specs/Ways).
use Rattle.std.specs.Prelude.{ℕ, List, Option, Some, None}
use Rattle.gfx_base.specs.declared.geometry.Point.{Point}
use Rattle.gfx_base.specs.declared.pixel.Pixel.{Pixel}
use Rattle.gfx_surface.specs.Picture.{overlaid}
use Rattle.gfx_script.specs.declared.picture.Picture.{Picture as Source}
use Rattle.gfx_script.specs.Scripted.{Script}
use Rattle.gfx_script.specs.Writes.{place_of}
use Rattle.gfx_script.specs.declared.way.Way.{Way}
use Rattle.gfx_script.specs.declared.way.Way.TheVariants as ways
use Rattle.gfx_video_paint.specs.Shown.{shown_as_video}
use Rattle.gfx_planner.specs.Pixels.{pixels_in, opaque_in}
use Rattle.gfx_planner.specs.Wanted.{Wanted}
use Rattle.gfx_planner.specs.SurfaceEffects.{drawing}
use Rattle.gfx_planner.specs.TileEffects.{with_tiles}

-- a picture lies on a surface with its top left corner at a place, in the pixels as which it shows
unfoldable pub with_pixels : Wanted → Option Source → (Source → List Pixel) → ℕ → Point → Wanted
with_pixels wanted None pixels id at = wanted
with_pixels wanted (Some picture) pixels id at = drawing wanted id (λ surface. overlaid surface (place_of picture at) (pixels picture))

-- a picture goes as RemoteFX video ([MS-RDPRFX] 2.2.2): each pixel of its place shows as its tile makes it
unfoldable pub with_video : Script → Wanted → Option Source → ℕ → Point → Wanted
with_video script wanted None id at = wanted
with_video script wanted (Some picture) id at = drawing wanted id (shown_as_video script.setting picture (place_of picture at))

-- a picture is painted: uncompressed it shows as it is, by a layer of ClearCodec opaque in its colours, in passes as its
-- tiles at the first level, and as video as its tiles. One that goes in no way changes nothing
unfoldable pub with_painting : Script → Wanted → Option Way → Option Source → ℕ → Point → Wanted
with_painting script wanted None source id at = wanted
with_painting script wanted (Some ways.Uncompressed) source id at = with_pixels wanted source pixels_in id at
with_painting script wanted (Some (ways.ByLayer layer)) source id at = with_pixels wanted source opaque_in id at
with_painting script wanted (Some ways.InPasses) source id at = with_tiles script wanted source id at
with_painting script wanted (Some ways.Video) source id at = with_video script wanted source id at
