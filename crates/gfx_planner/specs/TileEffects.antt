-- What a paint in passes shows, and what an improvement, which is a later pass, makes of it ([MS-RDPEGFX] 2.2.4.2). Both
-- send tiles, each of a cell and at a level; which they send is this project's own rule (`painted_sends`,
-- `improved_sends` of gfx_prog_live/specs/Live). Each shows in its cell what it is at its level (`after_showing` of
-- gfx_prog_live/specs/Showing; for each pixel `shown_at` of gfx_tile_make/specs/Levels).
use Rattle.std.specs.Prelude.{ℕ, Option, Some, None}
use Rattle.gfx_base.specs.declared.geometry.Point.{Point}
use Rattle.gfx_surface.specs.Picture.{Picture}
use Rattle.gfx_prog_live.specs.Live.{improved_sends, painted_sends}
use Rattle.gfx_prog_live.specs.Showing.{after_showing}
use Rattle.gfx_script.specs.declared.picture.Picture.{Picture as Source}
use Rattle.gfx_script.specs.Scripted.{Script}
use Rattle.gfx_script.specs.Writes.{place_of}
use Rattle.gfx_planner.specs.Wanted.{Wanted}
use Rattle.gfx_planner.specs.SurfaceEffects.{drawing}

-- a picture is painted in passes: each cell that it meets shows its tile at the first level, in the part that the picture
-- covers
unfoldable pub with_tiles : Script → Wanted → Option Source → ℕ → Point → Wanted
with_tiles script wanted None id at = wanted
with_tiles script wanted (Some picture) id at =
    drawing wanted id (after_showing id (painted_sends script wanted.passes.live id picture (place_of picture at)))

-- a surface is improved: each of its live tiles that isn't at the last level yet shows at the next one, in the part that
-- its paint covered
unfoldable pub with_improved : Wanted → Option Picture → ℕ → Wanted
with_improved wanted None id = wanted
with_improved wanted (Some surface) id =
    drawing wanted id (after_showing id (improved_sends wanted.passes.live id surface.width surface.height))
