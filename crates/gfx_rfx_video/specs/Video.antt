-- A message of RemoteFX video, applied ([MS-RDPRFX] 2.2.2 and 3.1.8.1). The order of the checks is this project's own rule:
-- first all structure, then tile sets and their tiles as they stand.
use Rattle.std.specs.Prelude.{ℕ, ◌/◌, ◌%◌, ◌^◌, ◌==◌, List, [], ◌∷◌, Option, Some, None, Result, Ok, if◌then◌else◌}
use Rattle.std.specs.Option.{ok_or}
use Rattle.gfx_base.specs.declared.geometry.Rect.{Rect}
use Rattle.gfx_base.specs.declared.refusal.Refusal.{Refusal}
use Rattle.gfx_base.specs.declared.refusal.Refusal.TheVariants.{EntropyUnknown, QuantRange}
use Rattle.gfx_base.specs.Results.{◌>>=◌, check}
use Rattle.gfx_rlgr.specs.declared.mode.Mode.{Mode}
use Rattle.gfx_rlgr.specs.declared.mode.Mode.TheVariants.{Rlgr1, Rlgr3}
use Rattle.gfx_surface.specs.Picture.{Picture}
use Rattle.gfx_prog_block.specs.declared.area.Area.{Area}
use Rattle.gfx_rfx_video.specs.declared.block.VideoBlock.{VideoBlock}
use Rattle.gfx_rfx_video.specs.declared.block.VideoBlock.TheVariants as blocks
use Rattle.gfx_rfx_video.specs.declared.quants.VideoQuant.{VideoQuant}
use Rattle.gfx_rfx_video.specs.declared.set.TileSet.{TileSet}
use Rattle.gfx_rfx_video.specs.declared.tile.CodedTile.{CodedTile}
use Rattle.gfx_rfx_video.specs.BlockReading.{video_blocks_of}
use Rattle.gfx_rfx_video.specs.Showing.{open_areas, shown_in}
use Rattle.gfx_rfx_video.specs.Tiles.{are_bases, planes_of}

-- one step after another over a list: the state after the last, or the first refusal
unfoldable pub in_turn : {X S : Type 0} → (X → S → Result S Refusal) → List X → S → Result S Refusal
in_turn step [] old = Ok old
in_turn step (x ∷ xs) old = do
  next ← step x old
  in_turn step xs next

-- bits 10 to 13 of a tile set's properties, counted from the low end (2.2.2.3.4, TS_RFX_TILESET, et)
abbrev pub entropy_bits : ℕ → ℕ
entropy_bits properties = properties / 2 ^ 10 % 2 ^ 4

-- the entropy coder that they name, if they name one
unfoldable pub entropy_of : ℕ → Option Mode
entropy_of properties =
    if entropy_bits properties == 1 then Some Rlgr1 else (if entropy_bits properties == 4 then Some Rlgr3 else None)

-- after a tile
unfoldable pub after_tile : Rect → Mode → List VideoQuant → List Area → CodedTile → Picture → Result Picture Refusal
after_tile rect mode quants areas tile picture = do
  planes ← planes_of mode quants tile
  Ok (shown_in rect areas tile.head planes picture)

-- after a tile set: its quants are checked, used or not, then come its tiles
unfoldable pub after_set : Rect → List Area → TileSet → Picture → Result Picture Refusal
after_set rect areas set picture = do
  mode ← ok_or (entropy_of set.properties) EntropyUnknown
  bases ← check QuantRange (are_bases set.quants)
  in_turn (after_tile rect mode set.quants areas) set.tiles picture

-- the rectangles of the last region, none before the first, and the picture
pub record Scene : Type 0 where
  pub areas : List Area
  pub picture : Picture

abbrev pub scene : List Area → Picture → Scene
scene areas picture = record { areas = areas; picture = picture }

-- a scene after a tile set
unfoldable pub painted : Rect → TileSet → Scene → Result Scene Refusal
painted rect set old = do
  picture ← after_set rect (open_areas rect old.areas) set old.picture
  Ok (scene old.areas picture)

-- after a block: all but regions and tile sets have no effect
abbrev pub after_block : Rect → VideoBlock → Scene → Result Scene Refusal
after_block rect (blocks.Region areas) old = Ok (scene areas old.picture)
after_block rect (blocks.TileSet set) old = painted rect set old
after_block rect block old = Ok old

-- a picture after blocks
unfoldable pub after_blocks : Rect → List VideoBlock → Picture → Result Picture Refusal
after_blocks rect all picture = do
  last ← in_turn (after_block rect) all (scene [] picture)
  Ok last.picture

-- a picture after the data of a message for this rectangle of it
unfoldable pub after_video : Rect → List ℕ → Picture → Result Picture Refusal
after_video rect bytes picture = do
  all ← video_blocks_of bytes
  after_blocks rect all picture
