-- The data of progressive paints ([MS-RDPEGFX] 2.2.4.2; which blocks, quants and levels a server writes is this
-- project's own rule).
use Prim.Native.Nat.{suc}
use Rattle.std.specs.Prelude.{ℕ, ◌==◌, List, [], ◌∷◌, length, map, if◌then◌else◌}
use Rattle.gfx_base.specs.Geometry.{height_of, width_of}
use Rattle.gfx_bits.specs.Padding.{padded}
use Rattle.gfx_dwt.specs.declared.layout.Band.TheVariants.{Hl1, Lh1, Hh1, Hl2, Lh2, Hh2, Hl3, Lh3, Hh3, Ll3}
use Rattle.gfx_dwt.specs.declared.layout.Transform.{Transform}
use Rattle.gfx_dwt.specs.declared.layout.Transform.TheVariants.{Plain, Reduced}
use Rattle.gfx_quant.specs.declared.quant.Component.{Component}
use Rattle.gfx_quant.specs.declared.quant.Component.TheVariants.{Y, Cb, Cr}
use Rattle.gfx_quant.specs.declared.setting.Level.{Level}
use Rattle.gfx_quant.specs.declared.setting.Setting.{Setting}
use Rattle.gfx_quant.specs.Quant.{pair}
use Rattle.gfx_rlgr.specs.Writes.{rlgr_bytes}
use Rattle.gfx_srl.specs.Writes.{srl_bytes}
use Rattle.gfx_tile_state.specs.Entries.{Pass, pairs_from, raw_from}
use Rattle.gfx_tile_make.specs.Levels.{first_values, values_at}
use Rattle.gfx_tile_make.specs.Source.{SourceTile}
use Rattle.gfx_tile_make.specs.Upgrade.{entries_to, upgrade_to}
use Rattle.gfx_prog_block.specs.declared.area.Area.{Area}
use Rattle.gfx_prog_block.specs.declared.block.Block.{Block}
use Rattle.gfx_prog_block.specs.declared.block.Block.TheVariants as blocks
use Rattle.gfx_prog_block.specs.declared.quants.PackedQuant.{PackedQuant}
use Rattle.gfx_prog_block.specs.declared.quants.RegionLevel.{RegionLevel}
use Rattle.gfx_prog_block.specs.declared.region.Region.{Region as RegionRead}
use Rattle.gfx_prog_block.specs.declared.region.TheConstants.{REDUCED}
use Rattle.gfx_prog_block.specs.declared.tile.FirstPass.{FirstPass}
use Rattle.gfx_prog_block.specs.declared.tile.TheConstants.{DIFFERENCE, NO_QUALITY}
use Rattle.gfx_prog_block.specs.declared.tile.Tile.{Tile}
use Rattle.gfx_prog_block.specs.declared.tile.Tile.TheVariants as tiles
use Rattle.gfx_prog_block.specs.declared.tile.TileHead.{TileHead}
use Rattle.gfx_prog_block.specs.declared.tile.UpgradePass.{UpgradePass}
use Rattle.gfx_prog_block.specs.Spelling.{spelling}
use Rattle.gfx_prog_encode.specs.declared.send.TileSend.{TileSend}

-- ---- tiles

-- the quants of a region are those of Y, Cb and Cr
abbrev pub head_of : TileSend → TileHead
head_of send = record { quant_y = 0; quant_cb = 1; quant_cr = 2; x_idx = send.cell.x; y_idx = send.cell.y }

-- a component at the first level
abbrev pub first_code : SourceTile → Component → List ℕ
first_code source component = rlgr_bytes (first_values source.setting.transform (values_at source component 0))

unfoldable pub first_pass : SourceTile → FirstPass
first_pass source = record { y = first_code source Y; cb = first_code source Cb; cr = first_code source Cr; tail = [] }

abbrev pub flags_of : SourceTile → ℕ
flags_of source = if source.difference then DIFFERENCE else 0

-- a tile at the first level
abbrev pub first_tile : TileSend → Tile
first_tile send = tiles.First (head_of send) (flags_of send.tile) 0 (first_pass send.tile)

-- what raises a component to a level, coded in SRL and raw
abbrev pub raised : SourceTile → Component → ℕ → Pass
raised source component level = upgrade_to source component level [] []

abbrev pub srl_code : SourceTile → Component → ℕ → List ℕ
srl_code source component level = srl_bytes (pairs_from (raised source component level) 0 (entries_to source component level))

abbrev pub raw_code : SourceTile → Component → ℕ → List ℕ
raw_code source component level = padded (raw_from (raised source component level) 0 (entries_to source component level))

unfoldable pub upgrade_pass : SourceTile → ℕ → UpgradePass
upgrade_pass source level = record {
  y_srl = srl_code source Y level;
  y_raw = raw_code source Y level;
  cb_srl = srl_code source Cb level;
  cb_raw = raw_code source Cb level;
  cr_srl = srl_code source Cr level;
  cr_raw = raw_code source Cr level;
}

-- a level is named by its place; the last, behind the listed ones, leaves nothing out
abbrev pub quality_of : Setting → ℕ → ℕ
quality_of setting level = if level == length setting.levels then NO_QUALITY else level

-- what raises a tile to its level
abbrev pub upgrade_tile : Setting → TileSend → Tile
upgrade_tile setting send = tiles.Upgrade (head_of send) (quality_of setting send.level) (upgrade_pass send.tile send.level)

-- ---- the region

-- the rectangle that a tile paints
abbrev pub area_of : TileSend → Area
area_of send = record { x = send.rect.left; y = send.rect.top; width = width_of send.rect; height = height_of send.rect }

-- a quant in its five bytes
abbrev pub packed : List ℕ → PackedQuant
packed values = record {
  ll3_hl3 = pair values Ll3 Hl3;
  lh3_hh3 = pair values Lh3 Hh3;
  hl2_lh2 = pair values Hl2 Lh2;
  hh2_hl1 = pair values Hh2 Hl1;
  lh1_hh1 = pair values Lh1 Hh1;
}

-- the listed levels, from this place on
unfoldable pub levels_from : ℕ → List Level → List RegionLevel
levels_from quality [] = []
levels_from quality (level ∷ levels) =
    (record { quality = quality; y = packed level.y.values; cb = packed level.cb.values; cr = packed level.cr.values }) ∷ levels_from (suc quality) levels

abbrev pub flags_by : Transform → ℕ
flags_by Plain = 0
flags_by Reduced = REDUCED

-- the region of tiles that are sent, one rectangle for each
abbrev pub region_of : Setting → List TileSend → List Tile → RegionRead
region_of setting sends tiles = record {
  flags = flags_by setting.transform;
  rects = map area_of sends;
  quants = packed setting.y.values ∷ packed setting.cb.values ∷ packed setting.cr.values ∷ [];
  levels = levels_from 0 setting.levels;
  tiles = tiles;
}

-- ---- messages

-- the blocks of a message: context 1, and one frame of one region, whose number is the message's
abbrev pub blocks_of : RegionRead → ℕ → List Block
blocks_of region index = blocks.Sync ∷ blocks.Context 1 0 ∷ blocks.FrameBegin index 1 ∷ blocks.Region region ∷ blocks.FrameEnd ∷ []

-- the data that paint tiles
unfoldable pub paint_data : Setting → List TileSend → ℕ → List ℕ
paint_data setting sends index = spelling (blocks_of (region_of setting sends (map first_tile sends)) index)

-- the data that improve them
unfoldable pub improve_data : Setting → List TileSend → ℕ → List ℕ
improve_data setting sends index = spelling (blocks_of (region_of setting sends (map (upgrade_tile setting) sends)) index)
