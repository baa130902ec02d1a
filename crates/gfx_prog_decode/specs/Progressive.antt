-- A progressive message, applied ([MS-RDPEGFX] 2.2.4.2, RFX_PROGRESSIVE_BITMAP_STREAM, and 3.2.8). The order of the checks is
-- this project's own rule: first all structure, then regions and their tiles as they stand.
use Rattle.std.specs.Prelude.{ℕ, ◌%◌, ◌==◌, Bool, List, Option, Result, Ok}
use Rattle.std.specs.FinMap as finmap
use Rattle.std.specs.Option.{ok_or}
use Rattle.gfx_base.specs.declared.refusal.Refusal.{Refusal}
use Rattle.gfx_base.specs.declared.refusal.Refusal.TheVariants.{NoFirstPass, QuantRange}
use Rattle.gfx_base.specs.Results.{◌>>=◌, check}
use Rattle.gfx_prog_block.specs.declared.area.Area.{Area}
use Rattle.gfx_prog_block.specs.declared.block.Block.{Block}
use Rattle.gfx_prog_block.specs.declared.block.Block.TheVariants as blocks
use Rattle.gfx_prog_block.specs.declared.region.Region.{Region as RegionRead}
use Rattle.gfx_prog_block.specs.declared.tile.FirstPass.{FirstPass}
use Rattle.gfx_prog_block.specs.declared.tile.TheConstants.{DIFFERENCE, NO_QUALITY}
use Rattle.gfx_prog_block.specs.declared.tile.Tile.{Tile}
use Rattle.gfx_prog_block.specs.declared.tile.Tile.TheVariants.{Simple, First, Upgrade}
use Rattle.gfx_prog_block.specs.declared.tile.TileHead.{TileHead}
use Rattle.gfx_prog_block.specs.declared.tile.UpgradePass.{UpgradePass}
use Rattle.gfx_prog_block.specs.Reading.{blocks_of}
use Rattle.gfx_tile_state.specs.declared.state.TileState.{TileState}
use Rattle.gfx_prog_decode.specs.declared.key.Key.{Key}
use Rattle.gfx_prog_decode.specs.declared.key.Place.{Place}
use Rattle.gfx_prog_decode.specs.Coding.{are_bases, coding_of}
use Rattle.gfx_prog_decode.specs.Passes.{improved, may_start, start_of, started}
use Rattle.gfx_prog_decode.specs.Scene.{Scene, in_turn, scene}
use Rattle.gfx_prog_decode.specs.Showing.{shown_in}

-- where a tile's record belongs
abbrev pub key_of : Place → TileHead → Key
key_of place head = record { surface = place.surface; context = place.context; x = head.x_idx; y = head.y_idx }

-- the record of a key, if there is one
abbrev pub found : Scene → Key → Option TileState
found old key = finmap.get old.records key

-- a scene with this record, and its tile drawn
abbrev pub with_tile : Scene → Key → List Area → TileState → Scene
with_tile old key areas tile = scene (finmap.insert old.records key tile) (shown_in old.picture key areas tile)

abbrev pub is_difference : ℕ → Bool
is_difference flags = flags % 2 == DIFFERENCE

-- after a simple or first tile
unfoldable pub after_first : Place → RegionRead → TileHead → ℕ → ℕ → FirstPass → Scene → Result Scene Refusal
after_first place region head flags quality pass old = do
  coding ← coding_of region old.picture.width old.picture.height head quality
  may ← may_start (is_difference flags) (found old (key_of place head)) (finmap.len old.records) coding.transform
  tile ← started (is_difference flags) coding pass (start_of (found old (key_of place head)))
  Ok (with_tile old (key_of place head) region.rects tile)

-- after an upgrade tile
unfoldable pub after_upgrade : Place → RegionRead → TileHead → ℕ → UpgradePass → Scene → Result Scene Refusal
after_upgrade place region head quality pass old = do
  coding ← coding_of region old.picture.width old.picture.height head quality
  before ← ok_or (found old (key_of place head)) NoFirstPass
  tile ← improved coding pass before
  Ok (with_tile old (key_of place head) region.rects tile)

-- after a tile; a simple one leaves nothing out
abbrev pub after_tile : Place → RegionRead → Tile → Scene → Result Scene Refusal
after_tile place region (Simple head flags pass) old = after_first place region head flags NO_QUALITY pass old
after_tile place region (First head flags quality pass) old = after_first place region head flags quality pass old
after_tile place region (Upgrade head quality pass) old = after_upgrade place region head quality pass old

-- after a region: its bases are checked, used or not, then come its tiles
unfoldable pub after_region : Place → RegionRead → Scene → Result Scene Refusal
after_region place region old = do
  bases ← check QuantRange (are_bases region.quants)
  in_turn (after_tile place region) region.tiles old

-- after a block: all but regions have no effect
abbrev pub after_block : Place → Block → Scene → Result Scene Refusal
after_block place (blocks.Region region) old = after_region place region old
after_block place block old = Ok old

-- after the data of a message
unfoldable pub after_message : Place → List ℕ → Scene → Result Scene Refusal
after_message place bytes old = do
  all ← blocks_of bytes
  in_turn (after_block place) all old
