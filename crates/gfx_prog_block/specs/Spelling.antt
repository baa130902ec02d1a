-- The bytes of blocks ([MS-RDPEGFX] 2.2.4.2).
use Rattle.std.specs.Prelude.{◌≡◌, ℕ, ◌+◌, List, [], ◌∷◌, ◌++◌, length}
use Rattle.std.specs.List.{flat_map, sum_by}
use Rattle.gfx_layout.specs.Shape.{digits, u16, u32}
use Rattle.gfx_layout.specs.Layout.{Parts, spelled, measured}
use Rattle.gfx_prog_block.specs.declared.block.Block.{Block}
use Rattle.gfx_prog_block.specs.declared.block.Block.TheVariants as blocks
use Rattle.gfx_prog_block.specs.declared.kinds.BlockType.{BlockType}
use Rattle.gfx_prog_block.specs.declared.kinds.BlockType.TheVariants as block_types
use Rattle.gfx_prog_block.specs.declared.kinds.TileType.{TileType}
use Rattle.gfx_prog_block.specs.declared.kinds.TileType.TheVariants as tile_types
use Rattle.gfx_prog_block.specs.declared.region.Region.{Region}
use Rattle.gfx_prog_block.specs.declared.region.RegionHead.{RegionHead}
use Rattle.gfx_prog_block.specs.declared.region.TheConstants.{TILE_SIZE}
use Rattle.gfx_prog_block.specs.declared.tile.FirstPass.{FirstPass}
use Rattle.gfx_prog_block.specs.declared.tile.Tile.{Tile}
use Rattle.gfx_prog_block.specs.declared.tile.Tile.TheVariants as tiles
use Rattle.gfx_prog_block.specs.declared.tile.UpgradePass.{UpgradePass}
use Rattle.gfx_prog_block.specs.Kinds.{block_number, tile_number}
use Rattle.gfx_prog_block.specs.Layouts.{frame_begin, context, region, first_pass, upgrade_pass, tile_layout}

-- a body in its frame: its type, its length with these six bytes
abbrev pub framed : ℕ → ℕ → List ℕ → List ℕ
framed kind size body = digits u16 kind ++ (digits u32 (6 + size) ++ body)

-- ---- tiles

abbrev pub tile_type : Tile → TileType
tile_type (tiles.Simple head flags pass) = tile_types.Simple
tile_type (tiles.First head flags quality pass) = tile_types.First
tile_type (tiles.Upgrade head quality pass) = tile_types.Upgrade

-- the parts of the data of a tile: their lengths, then the data
abbrev pub of_four : (a b c d : List ℕ) → Parts (first_pass (λ (p : FirstPass). p))
of_four a b c d = (length a, (length b, (length c, (length d, (a, (b, (c, (d, tt))))))))

abbrev pub first_parts : FirstPass → Parts (first_pass (λ (p : FirstPass). p))
first_parts pass = of_four pass.y pass.cb pass.cr pass.tail

abbrev pub of_six : (a b c d e f : List ℕ) → Parts (upgrade_pass (λ (p : UpgradePass). p))
of_six a b c d e f = (length a, (length b, (length c, (length d, (length e, (length f, (a, (b, (c, (d, (e, (f, tt))))))))))))

abbrev pub upgrade_parts : UpgradePass → Parts (upgrade_pass (λ (p : UpgradePass). p))
upgrade_parts pass = of_six pass.y_srl pass.y_raw pass.cb_srl pass.cb_raw pass.cr_srl pass.cr_raw

-- the parts of a tile in the order of its layout
abbrev pub tile_parts : (tile : Tile) → Parts (tile_layout (tile_type tile))
tile_parts (tiles.Simple head flags pass) = (head, (flags, first_parts pass))
tile_parts (tiles.First head flags quality pass) = (head, (flags, (quality, first_parts pass)))
tile_parts (tiles.Upgrade head quality pass) = (head, (quality, upgrade_parts pass))

-- the bytes of the data, behind their lengths
unfoldable pub first_text : FirstPass → List ℕ
first_text pass = spelled (first_pass (λ (p : FirstPass). p)) (first_parts pass)

unfoldable pub upgrade_text : UpgradePass → List ℕ
upgrade_text pass = spelled (upgrade_pass (λ (p : UpgradePass). p)) (upgrade_parts pass)

-- the body of a tile, and how many bytes it has
unfoldable pub tile_body : Tile → List ℕ
tile_body tile = spelled (tile_layout (tile_type tile)) (tile_parts tile)

unfoldable pub tile_measure : Tile → ℕ
tile_measure tile = measured (tile_layout (tile_type tile)) (tile_parts tile)

-- its bytes
unfoldable pub tile_text : Tile → List ℕ
tile_text tile = framed (tile_number (tile_type tile)) (tile_measure tile) (tile_body tile)

-- how many they are
abbrev pub tile_size : Tile → ℕ
tile_size tile = 6 + tile_measure tile

-- ---- blocks

-- the head of a region, and its parts in the order of its layout
abbrev pub head_of : Region → RegionHead
head_of r = record {
  tile_size = TILE_SIZE;
  rects = length r.rects;
  quants = length r.quants;
  levels = length r.levels;
  flags = r.flags;
  tiles = length r.tiles;
  tile_bytes = sum_by tile_size r.tiles;
}

abbrev pub region_parts : Region → Parts region
region_parts r = (head_of r, (r.rects, (r.quants, (r.levels, (flat_map tile_text r.tiles, tt)))))

-- the body of a region, and how many bytes it has
unfoldable pub region_body : Region → List ℕ
region_body r = spelled region (region_parts r)

unfoldable pub region_measure : Region → ℕ
region_measure r = measured region (region_parts r)

abbrev pub block_type : Block → BlockType
block_type blocks.Sync = block_types.Sync
block_type (blocks.FrameBegin index regions) = block_types.FrameBegin
block_type blocks.FrameEnd = block_types.FrameEnd
block_type (blocks.Context id flags) = block_types.Context
block_type (blocks.Region r) = block_types.Region

-- the body of a block; a sync block has these contents
abbrev pub block_body : List ℕ → Block → List ℕ
block_body contents blocks.Sync = contents
block_body contents (blocks.FrameBegin index regions) = spelled frame_begin (index, (regions, tt))
block_body contents blocks.FrameEnd = []
block_body contents (blocks.Context id flags) = spelled context (id, (TILE_SIZE, (flags, tt)))
block_body contents (blocks.Region r) = region_body r

-- how many bytes its body has
abbrev pub block_measure : Block → ℕ
block_measure blocks.Sync = 6
block_measure (blocks.FrameBegin index regions) = 6
block_measure blocks.FrameEnd = 0
block_measure (blocks.Context id flags) = 4
block_measure (blocks.Region r) = region_measure r

-- its bytes
unfoldable pub block_text : List ℕ → Block → List ℕ
block_text contents block = framed (block_number (block_type block)) (block_measure block) (block_body contents block)

-- what a sync block holds that is written: its magic number 0xCACCACCA and version 1.0
abbrev pub sync_contents : List ℕ
sync_contents = 0xCA ∷ 0xAC ∷ 0xCC ∷ 0xCA ∷ 0x00 ∷ 0x01 ∷ []

-- the one spelling that is written
unfoldable pub spelling : List Block → List ℕ
spelling all = flat_map (block_text sync_contents) all

-- a block stands at the front of these bytes; what a sync block holds may be anything
pub record Stands (block : Block) (bytes more : List ℕ) : Type 0 where
  pub contents : List ℕ
  pub six : length contents ≡ 6
  pub splits : bytes ≡ block_text contents block ++ more

-- these bytes are these blocks
abbrev pub Spells : List ℕ → List Block → Type 0
Spells bytes [] = bytes ≡ []
Spells bytes (block ∷ others) = (more : List ℕ) × (Stands block bytes more × Spells more others)
