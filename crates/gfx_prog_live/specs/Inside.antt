-- How live tiles are kept, and what the calls between them hand on.
use Rattle.std.specs.Prelude.{◌≡◌, ℕ, length, Option, Some, IfSome, is_some, if◌then◌else◌}
use Rattle.std.specs.FinMap as finmap
use Rattle.std.specs.FinMap.{from_entries}
use Rattle.std.specs.List.{slice_get}
use Rattle.gfx_base.specs.declared.geometry.Cell.{Cell}
use Rattle.gfx_base.specs.declared.geometry.Rect.{Rect}
use Rattle.gfx_base.specs.Cells.{cut_to_cell}
use Rattle.gfx_quant.specs.declared.setting.Setting.{Setting}
use Rattle.gfx_prog_decode.specs.declared.key.Key.{Key}
use Rattle.gfx_prog_encode.specs.declared.send.TileSend.{TileSend}
use Rattle.gfx_script.specs.declared.picture.Picture.{Picture}
use Rattle.gfx_script.specs.Scripted.{Script}
use Rattle.gfx_tile_make.specs.Source.{source_of}
use Rattle.gfx_prog_live.specs.declared.live.LiveTiles.TheInside as tiles
use Rattle.gfx_prog_live.specs.Cells.{cell_key}
use Rattle.gfx_prog_live.specs.Live.{Live}
use Rattle.gfx_prog_live.specs.Tiles.{cell_pixels, gone_on}

-- the map that the entries stand for
abbrev pub live_of : tiles.Inside → Live
live_of a = from_entries a.tiles.entries

-- a tile stands at the key of its cell
abbrev pub IsInPlace : Key → TileSend → Type 0
IsInPlace key send = key ≡ cell_key key.surface send.cell

-- so does each live tile
abbrev pub AreInPlace : Live → Type 0
AreInPlace live = (key : Key) → IfSome (finmap.get live key) (IsInPlace key)

-- a tile is of this setting
abbrev pub IsBy : Setting → TileSend → Type 0
IsBy setting send = send.tile.setting ≡ setting

-- so is each live tile
abbrev pub AreBy : Setting → Live → Type 0
AreBy setting live = (key : Key) → IfSome (finmap.get live key) (IsBy setting)

-- a tile lists so many levels before the last
abbrev pub Lists : ℕ → TileSend → Type 0
Lists listed send = length send.tile.setting.levels ≡ listed

-- so does each live tile
abbrev pub AreListed : ℕ → Live → Type 0
AreListed listed live = (key : Key) → IfSome (finmap.get live key) (Lists listed)

-- what holds of the picture of a number, if there is one
abbrev pub OfPicture : Script → ℕ → (Picture → Type 0) → Type 0
OfPicture script picture P = (drawing : Picture) → slice_get script.pictures picture ≡ Some drawing → P drawing

-- what is sent of a cell, by what was live there before
unfoldable pub sent_over : Script → Option TileSend → Picture → Rect → Cell → TileSend
sent_over script before picture rect cell = record {
  cell = cell;
  rect = cut_to_cell rect cell;
  tile = gone_on script.differences before (source_of script.setting (cell_pixels picture rect cell));
  level = 0;
}

-- live tiles without that of a cell, where it was taken
abbrev pub without_taken : ℕ → Cell → Option TileSend → Live → Live
without_taken id cell taken live = if is_some taken then finmap.remove live (cell_key id cell) else live
