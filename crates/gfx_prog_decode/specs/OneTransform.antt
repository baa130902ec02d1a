-- Records of which each component's passes have the record's transform ([MS-RDPEGFX] 3.2.8; this project's own words).
use Rattle.std.specs.Prelude.{◌≡◌, Some}
use Rattle.std.specs.FinMap as finmap
use Rattle.gfx_dwt.specs.declared.layout.Transform.{Transform}
use Rattle.gfx_tile_state.specs.declared.state.TileState.{TileState}
use Rattle.gfx_tile_state.specs.Known.{History, Leaves}
use Rattle.gfx_tile_state.specs.Passes.{Part}
use Rattle.gfx_prog_decode.specs.declared.key.Key.{Key}
use Rattle.gfx_prog_decode.specs.Records.{Records}

-- passes of this transform alone left a component
abbrev pub IsOf : Transform → Part → Type 0
IsOf t part = (history : History) × Leaves t history part

-- passes of the record's transform alone left each component
pub record IsOfOne (tile : TileState) : Type 0 where
  pub transform : Transform
  pub is : tile.transform ≡ Some transform
  pub y : IsOf transform tile.y
  pub cb : IsOf transform tile.cb
  pub cr : IsOf transform tile.cr

-- so it is with all records
abbrev pub AreOfOne : Records → Type 0
AreOfOne records = (key : Key) (tile : TileState) → finmap.get records key ≡ Some tile → IsOfOne tile
