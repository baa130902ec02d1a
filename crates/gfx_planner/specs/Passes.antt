-- Which tiles are live after a step, so that an improvement may raise them, and which numbers the next messages of passes
-- and of video have. A tile is live from when it is sent until another step writes in its cell: a paint in passes puts
-- its own in its place, and each other step ends it. This project's own rule.
use Rattle.std.specs.Prelude.{ℕ, Option, Some, None}
use Rattle.std.specs.FinMap.{get}
use Rattle.std.specs.List.{slice_get}
use Rattle.gfx_base.specs.declared.geometry.Point.{Point}
use Rattle.gfx_prog_live.specs.Live.{Passes, ended_in, improved_sends, painted_sends, passes_after, without_surface}
use Rattle.gfx_script.specs.declared.held.Sides.{Sides}
use Rattle.gfx_script.specs.declared.picture.Picture.{Picture as Source}
use Rattle.gfx_script.specs.declared.step.Kind.{Kind}
use Rattle.gfx_script.specs.declared.step.Step.{Step}
use Rattle.gfx_script.specs.declared.step.Step.TheVariants.{Delete, Improve, Paint}
use Rattle.gfx_script.specs.Scripted.{Script}
use Rattle.gfx_script.specs.Ways.{goes_by}
use Rattle.gfx_script.specs.Writes.{Area, place_of, writes_by}
use Rattle.gfx_script.specs.declared.way.Way.{Way}
use Rattle.gfx_script.specs.declared.way.Way.TheVariants as ways
use Rattle.gfx_surface.specs.Picture.{Picture}
use Rattle.gfx_surface_map.specs.Surfaces.{Surfaces}
use Rattle.gfx_video_paint.specs.Video.{videos_after}

-- after a change in an area: the live tiles of the cells that it touches have ended. Where there was no change, none has
unfoldable pub ended_by : Passes → Option Area → Passes
ended_by passes None = passes
ended_by passes (Some written) = record passes { live = ended_in passes.live written }

-- after a paint in passes: for each cell that the picture meets, its tile is live at the first level
unfoldable pub painted_passes : Script → Passes → ℕ → Option Source → Point → Passes
painted_passes script passes id None at = passes
painted_passes script passes id (Some picture) at = passes_after id (painted_sends script passes.live id picture (place_of picture at)) passes

-- after an improvement of a surface: its live tiles that weren't at the last level are live at the next one
unfoldable pub improved_passes : Passes → ℕ → Option Picture → Passes
improved_passes passes id None = passes
improved_passes passes id (Some surface) = passes_after id (improved_sends passes.live id surface.width surface.height) passes

-- after a paint as video: its messages are counted
unfoldable pub counted_in : Option Source → Passes → Passes
counted_in None passes = passes
counted_in (Some picture) passes = record passes { videos = videos_after picture passes.videos }

-- after a paint, by the way in which its picture goes: in passes it has sent its tiles, and in each other way it has
-- changed its place. Video is counted too
unfoldable pub live_after : Script → Passes → Option Way → ℕ → Option Source → Point → Option Area → Passes
live_after script passes None id source at written = ended_by passes written
live_after script passes (Some ways.Uncompressed) id source at written = ended_by passes written
live_after script passes (Some (ways.ByLayer layer)) id source at written = ended_by passes written
live_after script passes (Some ways.InPasses) id source at written = painted_passes script passes id source at
live_after script passes (Some ways.Video) id source at written = counted_in source (ended_by passes written)

-- after a step that goes as a kind, by the sides of the bitmaps of keys and the surfaces before it. The tiles of a
-- surface that is deleted end, and each step that sends no tiles of passes ends those of the cells in which it writes
unfoldable pub passes_as : Script → (ℕ → Option Sides) → Surfaces → Passes → Option Kind → Step → Passes
passes_as script sides_of surfaces passes kind (Delete id) = record passes { live = without_surface passes.live id }
passes_as script sides_of surfaces passes kind (Improve id) = improved_passes passes id (get surfaces id)
passes_as script sides_of surfaces passes kind (Paint id picture at named glyph) =
    live_after script passes (goes_by script.thin kind) id (slice_get script.pictures picture) at (writes_by script sides_of (Paint id picture at named glyph))
passes_as script sides_of surfaces passes kind step = ended_by passes (writes_by script sides_of step)
