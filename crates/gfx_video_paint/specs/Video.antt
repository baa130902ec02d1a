-- What a server sends for a paint by RemoteFX video ([MS-RDPRFX] 2.2.2): this project's own rule.
use Rattle.std.specs.Prelude.{ℕ, List, map}
use Rattle.gfx_base.specs.declared.geometry.Cell.{Cell}
use Rattle.gfx_base.specs.declared.geometry.Rect.{Rect}
use Rattle.gfx_base.specs.Cells.{cells_met}
use Rattle.gfx_base.specs.Geometry.{sized}
use Rattle.gfx_dwt.specs.declared.layout.Transform.TheVariants.{Plain}
use Rattle.gfx_quant.specs.declared.setting.Setting.{Setting}
use Rattle.gfx_rlgr.specs.declared.mode.Mode.{Mode}
use Rattle.gfx_script.specs.declared.picture.Picture.{Picture as Drawing}
use Rattle.gfx_tile_make.specs.Source.{source_of}
use Rattle.gfx_prog_live.specs.Live.{in_groups, number_after, numbered}
use Rattle.gfx_prog_live.specs.Tiles.{cell_pixels}
use Rattle.gfx_rfx_video.specs.declared.video_tile.VideoTile.{VideoTile}
use Rattle.gfx_rfx_video.specs.Message.{video_data}

-- how the tiles of video are coded: as progressive ones at their last level, by the plain transform
abbrev pub video_setting : Setting → Setting
video_setting setting = record setting { transform = Plain }

-- the rectangle of a picture, laid at the top left
abbrev pub laid : Drawing → Rect
laid picture = sized picture.width picture.height

-- its squares of 64 by 64 pixels from its own corner, one row of them after another
abbrev pub squares_of : Drawing → List Cell
squares_of picture = cells_met (laid picture)

-- the tile of a square: the picture's pixels there, quantised, on nothing; outside of the picture those of the nearest place
unfoldable pub video_tile : Setting → Drawing → Cell → VideoTile
video_tile setting picture square =
    record { x = square.x; y = square.y; tile = source_of (video_setting setting) (cell_pixels picture (laid picture) square) }

-- the tiles of a picture
abbrev pub video_tiles : Setting → Drawing → List VideoTile
video_tiles setting picture = map (video_tile setting picture) (squares_of picture)

-- the data of the message of some squares, of this number
unfoldable pub video_payload : Setting → Mode → Drawing → List Cell → ℕ → List ℕ
video_payload setting mode picture squares index =
    video_data (video_setting setting) mode picture.width picture.height (map (video_tile setting picture) squares) index

-- the data of a paint's messages: up to 256 squares each, numbered from here on by 32 bits
abbrev pub video_payloads : Setting → Mode → Drawing → ℕ → List (List ℕ)
video_payloads setting mode picture next = numbered (video_payload setting mode picture) (in_groups (squares_of picture)) next

-- the number of the message behind them
abbrev pub videos_after : Drawing → ℕ → ℕ
videos_after picture next = number_after (squares_of picture) next
