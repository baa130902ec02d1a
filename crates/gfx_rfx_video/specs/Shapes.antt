-- The parts of fixed size in the blocks of RemoteFX video ([MS-RDPRFX] 2.2.2).
use Rattle.std.specs.Prelude.{[], ◌∷◌, refl}
use Rattle.gfx_layout.specs.Shape.{Shape, u8, u16, u32}
use Rattle.gfx_rfx_video.specs.declared.quants.VideoQuant.{VideoQuant}
use Rattle.gfx_rfx_video.specs.declared.set.SetHead.{SetHead}

-- TS_RFX_CODEC_QUANT (2.2.2.1.5)
abbrev pub video_quant : Shape VideoQuant
video_quant = record {
  sizes = u8 ∷ u8 ∷ u8 ∷ u8 ∷ u8 ∷ [];
  row = λ q. (q.ll3_lh3, (q.hl3_hh3, (q.lh2_hl2, (q.hh2_lh1, (q.hl1_hh1, tt)))));
  of_row = λ t. record { ll3_lh3 = t.0; hl3_hh3 = t.1.0; lh2_hl2 = t.1.1.0; hh2_lh1 = t.1.1.1.0; hl1_hh1 = t.1.1.1.1.0 };
  there = λ q. refl;
  back = λ t. refl;
}

-- what a tile set says of itself (2.2.2.3.4): its properties, and how many quants, tiles and bytes of tiles it has
abbrev pub set_head : Shape SetHead
set_head = record {
  sizes = u16 ∷ u8 ∷ u8 ∷ u16 ∷ u32 ∷ [];
  row = λ h. (h.properties, (h.quants, (h.tile_size, (h.tiles, (h.tile_bytes, tt)))));
  of_row = λ t. record { properties = t.0; quants = t.1.0; tile_size = t.1.1.0; tiles = t.1.1.1.0; tile_bytes = t.1.1.1.1.0 };
  there = λ h. refl;
  back = λ t. refl;
}
