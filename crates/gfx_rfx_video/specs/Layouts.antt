-- The blocks of RemoteFX video, field by field ([MS-RDPRFX] 2.2.2). Of headers only lengths and counts are looked at,
-- which is this project's own rule: what else stands in them may be anything.
use Rattle.std.specs.Prelude.{◌-◌, ◌*◌, nat_le}
use Rattle.gfx_base.specs.declared.refusal.Refusal.TheVariants.{BlockLength}
use Rattle.gfx_layout.specs.Shape.{u8, u16, u32}
use Rattle.gfx_layout.specs.Layout.{Layout, done, number, one, items, list, bytes, must}
use Rattle.gfx_rfx_video.specs.declared.block.VideoBlock.{VideoBlock}
use Rattle.gfx_rfx_video.specs.declared.block.VideoBlock.TheVariants as blocks
use Rattle.gfx_rfx_video.specs.declared.frame.Frame.{Frame}
use Rattle.gfx_rfx_video.specs.declared.set.SetBody.{SetBody}
use Rattle.gfx_rfx_video.specs.declared.tile.CodedTile.{CodedTile}
use Rattle.gfx_prog_block.specs.Shapes.{area, tile_head}
use Rattle.gfx_rfx_video.specs.Shapes.{set_head, video_quant}

-- TS_RFX_BLOCKT (2.2.2.1.1), round every block: its type, and its length with these six bytes
abbrev pub frame : Layout Frame
frame =
    number u16 λ kind. number u32 λ size. must (nat_le 6 size) BlockLength (bytes (size - 6) λ body.
    done (record { kind = kind; body = body }))

-- TS_RFX_SYNC (2.2.2.2.1): magic u32, version u16
abbrev pub sync : Layout VideoBlock
sync = bytes 6 λ contents. done blocks.Sync

-- TS_RFX_CODEC_VERSIONS (2.2.2.2.2): count u8, codec id u8, version u16
abbrev pub versions : Layout VideoBlock
versions = bytes 4 λ contents. done blocks.Versions

-- TS_RFX_CHANNELS (2.2.2.2.3): a count, and so many TS_RFX_CHANNELT of id u8, width u16, height u16
abbrev pub channels : Layout VideoBlock
channels = number u8 λ count. bytes (count * 5) λ each. done blocks.Channels

-- TS_RFX_CONTEXT (2.2.2.2.4): codec id u8, channel id u8, context id u8, tile size u16, properties u16
abbrev pub context : Layout VideoBlock
context = bytes 7 λ contents. done blocks.Context

-- TS_RFX_FRAME_BEGIN (2.2.2.3.1): codec id u8, channel id u8, index u32, regions u16
abbrev pub frame_begin : Layout VideoBlock
frame_begin = bytes 8 λ contents. done blocks.FrameBegin

-- TS_RFX_FRAME_END (2.2.2.3.2): codec id u8, channel id u8
abbrev pub frame_end : Layout VideoBlock
frame_end = bytes 2 λ contents. done blocks.FrameEnd

-- TS_RFX_REGION (2.2.2.3.3): codec id u8, channel id u8, flags u8; the rectangles; type u16, tile sets u16
abbrev pub region : Layout VideoBlock
region = bytes 3 λ front. list u16 area λ rects. bytes 4 λ back. done (blocks.Region rects)

-- TS_RFX_TILESET (2.2.2.3.4), behind codec id u8, channel id u8, type u16, index u16; its tiles are so many bytes here
abbrev pub tile_set : Layout SetBody
tile_set =
    bytes 6 λ front. one set_head λ head. items video_quant head.quants λ quants. bytes head.tile_bytes λ tiles.
    done (record { head = head; quants = quants; tiles = tiles })

-- TS_RFX_TILE (2.2.2.3.4.1): its head, three lengths, and these data
abbrev pub tile : Layout CodedTile
tile =
    one tile_head λ head. number u16 λ y_size. number u16 λ cb_size. number u16 λ cr_size.
    bytes y_size λ y. bytes cb_size λ cb. bytes cr_size λ cr.
    done (record { head = head; y = y; cb = cb; cr = cr })
