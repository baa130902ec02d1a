-- The numbers of the blocks ([MS-RDPRFX] 2.2.2.1.1, blockType).
use Rattle.std.specs.Prelude.{ℕ, ◌==◌, List, [], ◌∷◌, Option}
use Rattle.std.specs.List.{find}
use Rattle.gfx_rfx_video.specs.declared.kinds.BlockType.{BlockType}
use Rattle.gfx_rfx_video.specs.declared.kinds.BlockType.TheVariants as blocks

-- the number of a block
abbrev pub block_number : BlockType → ℕ
block_number blocks.Sync = 0xCCC0
block_number blocks.Versions = 0xCCC1
block_number blocks.Channels = 0xCCC2
block_number blocks.Context = 0xCCC3
block_number blocks.FrameBegin = 0xCCC4
block_number blocks.FrameEnd = 0xCCC5
block_number blocks.Region = 0xCCC6
block_number blocks.TileSet = 0xCCC7

abbrev pub block_types : List BlockType
block_types =
    blocks.Sync ∷ blocks.Versions ∷ blocks.Channels ∷ blocks.Context ∷ blocks.FrameBegin ∷ blocks.FrameEnd
    ∷ blocks.Region ∷ blocks.TileSet ∷ []

-- the type of block that has this number, if one has
unfoldable pub block_type_of : ℕ → Option BlockType
block_type_of number = find (λ kind. block_number kind == number) block_types
