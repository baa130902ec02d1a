-- When the live tiles of a server's end agree with the records of its state, so that an improvement of them is accepted:
-- this project's own rule.
use Rattle.std.specs.Prelude.{◌≡◌, ℕ, true, Option, Some, None}
use Rattle.std.specs.FinMap.{contains_key, get}
use Rattle.gfx_prog_live.specs.Live.{Live}
use Rattle.gfx_prog_law.specs.Taken.{IsCell, LiveIn}
use Rattle.gfx_prog_decode.specs.declared.key.Key.{Key}
use Rattle.gfx_prog_decode.specs.Records.{Records}
use Rattle.gfx_prog_encode.specs.declared.send.TileSend.{TileSend}
use Rattle.gfx_quant.specs.declared.setting.Setting.{Setting}
use Rattle.gfx_surface.specs.Picture.{Picture}
use Rattle.gfx_surface_map.specs.Surfaces.{Surfaces}
use Rattle.gfx_tile_make.specs.Levels.{tile_at}

-- a record is of a cell of a surface
abbrev pub IsCellOf : Option Picture → Key → Type 0
IsCellOf None key = ⊥
IsCellOf (Some surface) key = IsCell key.surface surface.width surface.height key

-- the live tiles of surfaces agree with the records of their cells; no tile of another surface is live; and all records
-- are of cells of surfaces
pub record HoldsTiles (setting : Setting) (live : Live) (records : Records) (surfaces : Surfaces) : Type 0 where
  pub each : (id : ℕ) (surface : Picture) → get surfaces id ≡ Some surface → LiveIn setting id surface.width surface.height live records
  pub others : (key : Key) → get surfaces key.surface ≡ None → get live key ≡ None
  pub cells : (key : Key) → contains_key records key ≡ true → IsCellOf (get surfaces key.surface) key

-- for each live tile there is the record of its cell at its level: the transform, and for each component the plane that is
-- kept, the sums and the bit positions
abbrev pub HoldsLive : Live → Records → Type 0
HoldsLive live records = (key : Key) (send : TileSend) → get live key ≡ Some send → get records key ≡ Some (tile_at send.tile send.level)
