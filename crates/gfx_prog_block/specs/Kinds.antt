-- The numbers of the blocks ([MS-RDPEGFX] 2.2.4.2, blockType).
use Rattle.std.specs.Prelude.{ℕ, ◌==◌, List, [], ◌∷◌, Option}
use Rattle.std.specs.List.{find}
use Rattle.gfx_prog_block.specs.declared.kinds.BlockType.{BlockType}
use Rattle.gfx_prog_block.specs.declared.kinds.BlockType.TheVariants as blocks
use Rattle.gfx_prog_block.specs.declared.kinds.TileType.{TileType}
use Rattle.gfx_prog_block.specs.declared.kinds.TileType.TheVariants as tiles

-- the number of a block
abbrev pub block_number : BlockType → ℕ
block_number blocks.Sync = 0xCCC0
block_number blocks.FrameBegin = 0xCCC1
block_number blocks.FrameEnd = 0xCCC2
block_number blocks.Context = 0xCCC3
block_number blocks.Region = 0xCCC4

abbrev pub block_types : List BlockType
block_types = blocks.Sync ∷ blocks.FrameBegin ∷ blocks.FrameEnd ∷ blocks.Context ∷ blocks.Region ∷ []

-- the type of block that has this number, if one has
unfoldable pub block_type_of : ℕ → Option BlockType
block_type_of number = find (λ kind. block_number kind == number) block_types

-- the number of a tile
abbrev pub tile_number : TileType → ℕ
tile_number tiles.Simple = 0xCCC5
tile_number tiles.First = 0xCCC6
tile_number tiles.Upgrade = 0xCCC7

abbrev pub tile_types : List TileType
tile_types = tiles.Simple ∷ tiles.First ∷ tiles.Upgrade ∷ []

-- the type of tile that has this number, if one has
unfoldable pub tile_type_of : ℕ → Option TileType
tile_type_of number = find (λ kind. tile_number kind == number) tile_types
