-- What live tiles show: this project's own promise.
use Rattle.std.specs.Prelude.{◌≡◌, ◌-◌, ◌*◌, ◌<◌, ℕ, true, length, List, ◌++◌, Some}
use Rattle.std.specs.FinMap.{get}
use Rattle.gfx_base.specs.declared.geometry.TheConstants.{CELL_SIDE}
use Rattle.gfx_base.specs.Geometry.{holds}
use Rattle.gfx_prog_decode.specs.declared.key.Key.{Key}
use Rattle.gfx_prog_encode.specs.declared.send.TileSend.{TileSend}
use Rattle.gfx_script.specs.Kinds.{KindedStep, Fits}
use Rattle.gfx_script.specs.Script.{IsAccepted}
use Rattle.gfx_script.specs.Scripted.{Script}
use Rattle.gfx_surface.specs.Picture.{Picture, pixel_at}
use Rattle.gfx_tile_make.specs.Levels.{direct_pixel, shown_at}
use Rattle.gfx_planner.specs.Wanted.{Wanted}
use Rattle.gfx_planner.specs.Want.{want}

-- a live tile, and a pixel of its surface that it paints
pub record IsPixelOf (wanted : Wanted) (key : Key) (send : TileSend) (picture : Picture) (x y : ℕ) : Type 0 where
  pub live : get wanted.passes.live key ≡ Some send
  pub there : get wanted.shown.surfaces key.surface ≡ Some picture
  pub column : x < picture.width
  pub row : y < picture.height
  pub inside : holds send.rect x y ≡ true

-- each live tile shows in its rectangle what it is at its level; at the last level that is the direct decoding of its own
-- quantised values, whatever it goes on
pub record TilesAreShown (wanted : Wanted) : Type 0 where
  pub each : (key : Key) (send : TileSend) (picture : Picture) (x y : ℕ) → IsPixelOf wanted key send picture x y
      → pixel_at picture x y ≡ shown_at send.tile send.level (y - CELL_SIDE * send.cell.y) (x - CELL_SIDE * send.cell.x)
  pub last : (key : Key) (send : TileSend) (picture : Picture) (x y : ℕ) → IsPixelOf wanted key send picture x y → send.level ≡ length send.tile.setting.levels
      → pixel_at picture x y ≡ direct_pixel send.tile (y - CELL_SIDE * send.cell.y) (x - CELL_SIDE * send.cell.x)

-- so after each front of an accepted script, whatever kinds its steps go as that they may go as
abbrev pub LiveTilesAreShown : Type 0
LiveTilesAreShown = (script : Script) (front rest : List KindedStep) → IsAccepted script → Fits (front ++ rest) script.steps → TilesAreShown (want script front)
