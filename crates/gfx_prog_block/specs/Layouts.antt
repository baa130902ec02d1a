-- The blocks of RemoteFX Progressive, field by field ([MS-RDPEGFX] 2.2.4.2).
use Rattle.std.specs.Prelude.{◌-◌, nat_le}
use Rattle.gfx_base.specs.declared.refusal.Refusal.TheVariants.{BlockLength}
use Rattle.gfx_layout.specs.Shape.{u8, u16, u32}
use Rattle.gfx_layout.specs.Layout.{Layout, done, number, one, items, bytes, must}
use Rattle.gfx_prog_block.specs.declared.block.Block.{Block}
use Rattle.gfx_prog_block.specs.declared.block.Block.TheVariants as blocks
use Rattle.gfx_prog_block.specs.declared.frame.Frame.{Frame}
use Rattle.gfx_prog_block.specs.declared.kinds.TileType.{TileType}
use Rattle.gfx_prog_block.specs.declared.kinds.TileType.TheVariants as types
use Rattle.gfx_prog_block.specs.declared.region.ContextBody.{ContextBody}
use Rattle.gfx_prog_block.specs.declared.region.RegionBody.{RegionBody}
use Rattle.gfx_prog_block.specs.declared.tile.FirstPass.{FirstPass}
use Rattle.gfx_prog_block.specs.declared.tile.Tile.{Tile}
use Rattle.gfx_prog_block.specs.declared.tile.Tile.TheVariants as tiles
use Rattle.gfx_prog_block.specs.declared.tile.UpgradePass.{UpgradePass}
use Rattle.gfx_prog_block.specs.Shapes.{area, packed_quant, region_level, region_head, tile_head}

-- what stands round every block: its type, and its length with these six bytes
abbrev pub frame : Layout Frame
frame =
    number u16 λ kind. number u32 λ size. must (nat_le 6 size) BlockLength (bytes (size - 6) λ body.
    done (record { kind = kind; body = body }))

-- RFX_PROGRESSIVE_SYNC; what stands in it may be anything
abbrev pub sync : Layout Block
sync = bytes 6 λ contents. done blocks.Sync

-- RFX_PROGRESSIVE_FRAME_BEGIN
abbrev pub frame_begin : Layout Block
frame_begin = number u32 λ index. number u16 λ regions. done (blocks.FrameBegin index regions)

-- RFX_PROGRESSIVE_FRAME_END
abbrev pub frame_end : Layout Block
frame_end = done blocks.FrameEnd

-- RFX_PROGRESSIVE_CONTEXT
abbrev pub context : Layout ContextBody
context = number u8 λ id. number u16 λ tile_size. number u8 λ flags. done (record { id = id; tile_size = tile_size; flags = flags })

-- RFX_PROGRESSIVE_REGION; its tiles are so many bytes here
abbrev pub region : Layout RegionBody
region =
    one region_head λ head.
    items area head.rects λ rects. items packed_quant head.quants λ quants. items region_level head.levels λ levels.
    bytes head.tile_bytes λ tiles.
    done (record { head = head; rects = rects; quants = quants; levels = levels; tiles = tiles })

-- the data of a simple or first tile, behind their four lengths
abbrev pub first_pass : {R : Type 0} → (FirstPass → R) → Layout R
first_pass says =
    number u16 λ y_size. number u16 λ cb_size. number u16 λ cr_size. number u16 λ tail_size.
    bytes y_size λ y. bytes cb_size λ cb. bytes cr_size λ cr. bytes tail_size λ tail.
    done (says (record { y = y; cb = cb; cr = cr; tail = tail }))

-- the data of an upgrade, behind their six lengths
abbrev pub upgrade_pass : {R : Type 0} → (UpgradePass → R) → Layout R
upgrade_pass says =
    number u16 λ y_srl_size. number u16 λ y_raw_size. number u16 λ cb_srl_size. number u16 λ cb_raw_size.
    number u16 λ cr_srl_size. number u16 λ cr_raw_size.
    bytes y_srl_size λ y_srl. bytes y_raw_size λ y_raw. bytes cb_srl_size λ cb_srl. bytes cb_raw_size λ cb_raw.
    bytes cr_srl_size λ cr_srl. bytes cr_raw_size λ cr_raw.
    done (says (record { y_srl = y_srl; y_raw = y_raw; cb_srl = cb_srl; cb_raw = cb_raw; cr_srl = cr_srl; cr_raw = cr_raw }))

-- RFX_PROGRESSIVE_TILE_SIMPLE
abbrev pub simple_tile : Layout Tile
simple_tile = one tile_head λ head. number u8 λ flags. first_pass (λ pass. tiles.Simple head flags pass)

-- RFX_PROGRESSIVE_TILE_FIRST
abbrev pub first_tile : Layout Tile
first_tile = one tile_head λ head. number u8 λ flags. number u8 λ quality. first_pass (λ pass. tiles.First head flags quality pass)

-- RFX_PROGRESSIVE_TILE_UPGRADE
abbrev pub upgrade_tile : Layout Tile
upgrade_tile = one tile_head λ head. number u8 λ quality. upgrade_pass (λ pass. tiles.Upgrade head quality pass)

-- the body of the tiles of this type
abbrev pub tile_layout : TileType → Layout Tile
tile_layout types.Simple = simple_tile
tile_layout types.First = first_tile
tile_layout types.Upgrade = upgrade_tile
