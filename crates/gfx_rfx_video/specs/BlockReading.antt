-- The blocks that bytes are, and which fault is the first ([MS-RDPRFX] 2.2.2; the faults and their order are this
-- project's own).
use Rattle.std.specs.Prelude.{ℕ, Bool, zero, suc, ◌==◌, not, List, [], ◌∷◌, length, if◌then◌else◌, Result, Ok, Err}
use Rattle.std.specs.Option.{ok_or}
use Rattle.std.specs.Result.{is_ok}
use Rattle.gfx_base.specs.Results.{◌>>=◌, check}
use Rattle.gfx_base.specs.declared.refusal.Refusal.{Refusal}
use Rattle.gfx_base.specs.declared.refusal.Refusal.TheVariants.{BlockLength, BlockUnknown, TileCount}
use Rattle.gfx_layout.specs.declared.stop.Stop.{Stop}
use Rattle.gfx_layout.specs.declared.stop.Stop.TheVariants.{Short, Long, Rule}
use Rattle.gfx_layout.specs.Reading.{Taken, read, read_whole, take_each}
use Rattle.gfx_rfx_video.specs.declared.block.VideoBlock.{VideoBlock}
use Rattle.gfx_rfx_video.specs.declared.block.VideoBlock.TheVariants as blocks
use Rattle.gfx_rfx_video.specs.declared.kinds.BlockType.{BlockType}
use Rattle.gfx_rfx_video.specs.declared.kinds.BlockType.TheVariants as types
use Rattle.gfx_rfx_video.specs.declared.kinds.TheConstants.{TILE}
use Rattle.gfx_rfx_video.specs.declared.set.TileSet.{TileSet}
use Rattle.gfx_rfx_video.specs.declared.tile.CodedTile.{CodedTile}
use Rattle.gfx_rfx_video.specs.Kinds.{block_type_of}
use Rattle.gfx_rfx_video.specs.Layouts.{frame, sync, versions, channels, context, frame_begin, frame_end, region, tile_set, tile}

-- the tile at the front of a tile set's tiles: its frame, its type, its body
unfoldable pub tile_at : List ℕ → Taken CodedTile
tile_at bytes = do
  found ← read frame bytes
  known ← check (Rule BlockUnknown) (found.0.kind == TILE)
  one ← read_whole tile found.0.body
  Ok (one, found.1)

-- a tile that is due
unfoldable pub due_tile : List ℕ → Taken CodedTile
due_tile bytes = do
  some ← check (Rule TileCount) (not (length bytes == 0))
  tile_at bytes

-- so many tiles, which are all of these bytes
unfoldable pub tiles_of : ℕ → List ℕ → Result (List CodedTile) Stop
tiles_of count bytes = do
  found ← take_each due_tile count bytes
  none ← check (Rule TileCount) (length found.1 == 0)
  Ok found.0

-- the tile set with this body: its length, its tiles
unfoldable pub set_of : List ℕ → Result TileSet Stop
set_of body = do
  parts ← read_whole tile_set body
  tiles ← tiles_of parts.head.tiles parts.tiles
  Ok (record { properties = parts.head.properties; quants = parts.quants; tiles = tiles })

-- the block of this type with this body
unfoldable pub block_of : BlockType → List ℕ → Result VideoBlock Stop
block_of types.Sync body = read_whole sync body
block_of types.Versions body = read_whole versions body
block_of types.Channels body = read_whole channels body
block_of types.Context body = read_whole context body
block_of types.FrameBegin body = read_whole frame_begin body
block_of types.FrameEnd body = read_whole frame_end body
block_of types.Region body = read_whole region body
block_of types.TileSet body = do
  found ← set_of body
  Ok (blocks.TileSet found)

-- the block at the front of bytes: its frame, its type, its body
unfoldable pub block_at : List ℕ → Taken VideoBlock
block_at bytes = do
  found ← read frame bytes
  kind ← ok_or (block_type_of found.0.kind) (Rule BlockUnknown)
  block ← block_of kind found.0.body
  Ok (block, found.1)

-- the type of the block at the front of bytes, by its frame alone
unfoldable pub kind_at : List ℕ → Result BlockType Stop
kind_at bytes = do
  found ← read frame bytes
  ok_or (block_type_of found.0.kind) (Rule BlockUnknown)

-- a block begins at the front of bytes: its frame can be read, and its type is known, whatever its body holds
unfoldable pub begins_block : List ℕ → Bool
begins_block bytes = is_ok (kind_at bytes)

-- the blocks that bytes are, of which there are no more than these
unfoldable pub blocks_within : ℕ → List ℕ → Result (List VideoBlock) Stop
blocks_within zero bytes = Ok []
blocks_within (suc most) bytes =
    if length bytes == 0 then Ok [] else do
      first ← block_at bytes
      others ← blocks_within most first.1
      Ok (first.0 ∷ others)

-- why bytes are refused: a block that doesn't end with its fields is BlockLength
abbrev pub refusal_of : Stop → Refusal
refusal_of Short = BlockLength
refusal_of Long = BlockLength
refusal_of (Rule refusal) = refusal

-- what was read, or its refusal
abbrev pub refused : {X : Type 0} → Result X Stop → Result X Refusal
refused (Ok x) = Ok x
refused (Err stop) = Err (refusal_of stop)

-- the blocks that bytes are, or the first fault; each block has bytes
unfoldable pub video_blocks_of : List ℕ → Result (List VideoBlock) Refusal
video_blocks_of bytes = refused (blocks_within (length bytes) bytes)
