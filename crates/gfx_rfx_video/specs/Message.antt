-- The data of a server's messages of RemoteFX video ([MS-RDPRFX] 2.2.2; which blocks there are and what they hold is this
-- project's own rule).
use Rattle.std.specs.Prelude.{◌≡◌, ℕ, min, ◌-◌, ◌*◌, ◌<◌, ◌≤◌, List, [], ◌∷◌, ◌++◌, length, map}
use Rattle.std.specs.List.{flat_map}
use Rattle.gfx_base.specs.declared.geometry.TheConstants.{CELL_SIDE}
use Rattle.gfx_dwt.specs.declared.layout.Band.TheVariants.{Hl1, Lh1, Hh1, Hl2, Lh2, Hh2, Hl3, Lh3, Hh3, Ll3}
use Rattle.gfx_dwt.specs.declared.layout.Transform.TheVariants.{Plain}
use Rattle.gfx_layout.specs.Layout.{Parts, measured, spelled}
use Rattle.gfx_layout.specs.Shape.{digits, u16, u32}
use Rattle.gfx_quant.specs.declared.quant.Component.{Component}
use Rattle.gfx_quant.specs.declared.quant.Component.TheVariants.{Y, Cb, Cr}
use Rattle.gfx_quant.specs.declared.setting.Setting.{Setting}
use Rattle.gfx_quant.specs.Quant.{pair}
use Rattle.gfx_rlgr.specs.declared.mode.Mode.{Mode}
use Rattle.gfx_rlgr.specs.declared.mode.Mode.TheVariants.{Rlgr1, Rlgr3}
use Rattle.gfx_rlgr.specs.Writes.{encoded}
use Rattle.gfx_prog_block.specs.declared.area.Area.{Area}
use Rattle.gfx_prog_block.specs.declared.tile.TileHead.{TileHead}
use Rattle.gfx_prog_block.specs.Spelling.{framed}
use Rattle.gfx_tile_make.specs.Levels.{direct_plane, first_values, values_at}
use Rattle.gfx_tile_make.specs.Source.{SourceTile}
use Rattle.gfx_rfx_video.specs.declared.block.VideoBlock.{VideoBlock}
use Rattle.gfx_rfx_video.specs.declared.block.VideoBlock.TheVariants as blocks
use Rattle.gfx_rfx_video.specs.declared.coding.Codes.{Codes}
use Rattle.gfx_rfx_video.specs.declared.kinds.BlockType.TheVariants as types
use Rattle.gfx_rfx_video.specs.declared.kinds.TheConstants.{TILE}
use Rattle.gfx_rfx_video.specs.declared.planes.Planes.{Planes}
use Rattle.gfx_rfx_video.specs.declared.quants.VideoQuant.{VideoQuant}
use Rattle.gfx_rfx_video.specs.declared.set.SetHead.{SetHead}
use Rattle.gfx_rfx_video.specs.declared.set.TileSet.{TileSet}
use Rattle.gfx_rfx_video.specs.declared.tile.CodedTile.{CodedTile}
use Rattle.gfx_rfx_video.specs.declared.video_tile.VideoTile.{VideoTile}
use Rattle.gfx_rfx_video.specs.Kinds.{block_number}
use Rattle.gfx_rfx_video.specs.Layouts.{region, tile, tile_set}
use Rattle.gfx_rfx_video.specs.Tiles.{Bases}

-- ---- tiles

-- a component: its values at the level behind the listed ones, which leaves nothing out, LL3 as differences
abbrev pub code_of : Mode → SourceTile → Component → List ℕ
code_of mode source component = encoded mode (first_values Plain (values_at source component (length source.setting.levels)))

-- a tile's codes
unfoldable pub codes_of : Mode → SourceTile → Codes
codes_of mode source = record { y = code_of mode source Y; cb = code_of mode source Cb; cr = code_of mode source Cr }

-- a tile of these codes
abbrev pub coded_tile : TileHead → Codes → CodedTile
coded_tile head codes = record { head = head; y = codes.y; cb = codes.cb; cr = codes.cr }

-- the numbers that a setting's quants have
abbrev pub bases_by : Setting → Bases
bases_by setting = record { y = setting.y.values; cb = setting.cb.values; cr = setting.cr.values }

-- the coefficients of a tile's own values
abbrev pub direct_planes : SourceTile → Planes
direct_planes source = record {
  y = direct_plane Plain source.setting.y.values source.y.own;
  cb = direct_plane Plain source.setting.cb.values source.cb.own;
  cr = direct_plane Plain source.setting.cr.values source.cr.own;
}

-- they fit the lengths of a tile
abbrev pub AreShort : Codes → Type 0
AreShort codes = (length codes.y ≤ 65535) × (length codes.cb ≤ 65535) × (length codes.cr ≤ 65535)

-- the quants of a tile set are those of Y, Cb and Cr
abbrev pub head_of : VideoTile → TileHead
head_of t = record { quant_y = 0; quant_cb = 1; quant_cr = 2; x_idx = t.x; y_idx = t.y }

abbrev pub tile_parts : TileHead → Codes → Parts tile
tile_parts head codes = (head, (length codes.y, (length codes.cb, (length codes.cr, (codes.y, (codes.cb, (codes.cr, tt)))))))

-- the bytes of a tile of this head and these codes
unfoldable pub coded_text : TileHead → Codes → List ℕ
coded_text head codes = framed TILE (measured tile (tile_parts head codes)) (spelled tile (tile_parts head codes))

-- the bytes of a tile
abbrev pub tile_text : Mode → VideoTile → List ℕ
tile_text mode t = coded_text (head_of t) (codes_of mode t.tile)

-- a tile that may be sent by a setting, in a rectangle of these sides
pub record IsSent (setting : Setting) (width height : ℕ) (t : VideoTile) : Type 0 where
  pub setting_is : t.tile.setting ≡ setting
  pub plain : setting.transform ≡ Plain
  pub across : CELL_SIDE * t.x < width
  pub down : CELL_SIDE * t.y < height

-- ---- blocks

-- what of a tile lies in a rectangle of these sides, from its corner
abbrev pub area_of : ℕ → ℕ → VideoTile → Area
area_of width height t = record {
  x = CELL_SIDE * t.x;
  y = CELL_SIDE * t.y;
  width = min CELL_SIDE (width - CELL_SIDE * t.x);
  height = min CELL_SIDE (height - CELL_SIDE * t.y);
}

-- a quant in its five bytes
abbrev pub packed : List ℕ → VideoQuant
packed values = record {
  ll3_lh3 = pair values Ll3 Lh3;
  hl3_hh3 = pair values Hl3 Hh3;
  lh2_hl2 = pair values Lh2 Hl2;
  hh2_lh1 = pair values Hh2 Lh1;
  hl1_hh1 = pair values Hl1 Hh1;
}

abbrev pub quants_of : Setting → List VideoQuant
quants_of setting = packed setting.y.values ∷ packed setting.cb.values ∷ packed setting.cr.values ∷ []

-- the properties of a context and of a tile set: all tiles by this coder
abbrev pub context_properties : Mode → ℕ
context_properties Rlgr1 = 0x222A
context_properties Rlgr3 = 0x282A

abbrev pub set_properties : Mode → ℕ
set_properties Rlgr1 = 0x4455
set_properties Rlgr3 = 0x5055

unfoldable pub sync_text : List ℕ
sync_text = framed (block_number types.Sync) 6 (0xCA ∷ 0xAC ∷ 0xCC ∷ 0xCA ∷ 0 ∷ 1 ∷ [])

unfoldable pub versions_text : List ℕ
versions_text = framed (block_number types.Versions) 4 (1 ∷ 1 ∷ 0 ∷ 1 ∷ [])

-- one channel, of these sides
unfoldable pub channels_text : ℕ → ℕ → List ℕ
channels_text width height = framed (block_number types.Channels) 6 (1 ∷ 0 ∷ (digits u16 width ++ digits u16 height))

unfoldable pub context_text : Mode → List ℕ
context_text mode = framed (block_number types.Context) 7 (1 ∷ 0xFF ∷ 0 ∷ 0x40 ∷ 0 ∷ digits u16 (context_properties mode))

-- a frame of one region
unfoldable pub begin_text : ℕ → List ℕ
begin_text index = framed (block_number types.FrameBegin) 8 (1 ∷ 0 ∷ (digits u32 index ++ (1 ∷ 0 ∷ [])))

abbrev pub region_parts : List Area → Parts region
region_parts areas = (1 ∷ 0 ∷ 1 ∷ [], (areas, (0xC1 ∷ 0xCA ∷ 1 ∷ 0 ∷ [], tt)))

unfoldable pub region_text : List Area → List ℕ
region_text areas = framed (block_number types.Region) (measured region (region_parts areas)) (spelled region (region_parts areas))

abbrev pub set_head : Mode → ℕ → List ℕ → SetHead
set_head mode count texts = record { properties = set_properties mode; quants = 3; tile_size = 64; tiles = count; tile_bytes = length texts }

abbrev pub set_parts : Mode → Setting → ℕ → List ℕ → Parts tile_set
set_parts mode setting count texts = (1 ∷ 0 ∷ 0xC2 ∷ 0xCA ∷ 0 ∷ 0 ∷ [], (set_head mode count texts, (quants_of setting, (texts, tt))))

unfoldable pub set_text : Mode → Setting → ℕ → List ℕ → List ℕ
set_text mode setting count texts =
    framed (block_number types.TileSet) (measured tile_set (set_parts mode setting count texts)) (spelled tile_set (set_parts mode setting count texts))

unfoldable pub end_text : List ℕ
end_text = framed (block_number types.FrameEnd) 2 (1 ∷ 0 ∷ [])

-- what stands before the region
unfoldable pub front_text : Mode → ℕ → ℕ → ℕ → List ℕ
front_text mode width height index = sync_text ++ (versions_text ++ (channels_text width height ++ (context_text mode ++ begin_text index)))

-- the data of a message for a rectangle of these sides
unfoldable pub video_data : Setting → Mode → ℕ → ℕ → List VideoTile → ℕ → List ℕ
video_data setting mode width height tiles index =
    front_text mode width height index
    ++ (region_text (map (area_of width height) tiles) ++ (set_text mode setting (length tiles) (flat_map (tile_text mode) tiles) ++ end_text))

-- ---- what a message is made of

-- a tile, coded
abbrev pub tile_of : Mode → VideoTile → CodedTile
tile_of mode t = coded_tile (head_of t) (codes_of mode t.tile)

-- the tile set
abbrev pub set_by : Mode → Setting → List VideoTile → TileSet
set_by mode setting tiles = record { properties = set_properties mode; quants = quants_of setting; tiles = map (tile_of mode) tiles }

-- the blocks
abbrev pub blocks_by : Mode → Setting → ℕ → ℕ → List VideoTile → List VideoBlock
blocks_by mode setting width height tiles =
    blocks.Sync ∷ blocks.Versions ∷ blocks.Channels ∷ blocks.Context ∷ blocks.FrameBegin ∷ blocks.Region (map (area_of width height) tiles)
    ∷ blocks.TileSet (set_by mode setting tiles) ∷ blocks.FrameEnd ∷ []
