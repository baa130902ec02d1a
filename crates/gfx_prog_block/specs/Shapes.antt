-- The parts of fixed size in the blocks of RemoteFX Progressive ([MS-RDPEGFX] 2.2.4.2).
use Rattle.std.specs.Prelude.{ℕ, List, [], ◌∷◌, refl}
use Rattle.gfx_layout.specs.Shape.{Shape, u8, u16, u32}
use Rattle.gfx_prog_block.specs.declared.area.Area.{Area}
use Rattle.gfx_prog_block.specs.declared.quants.PackedQuant.{PackedQuant}
use Rattle.gfx_prog_block.specs.declared.quants.RegionLevel.{RegionLevel}
use Rattle.gfx_prog_block.specs.declared.region.RegionHead.{RegionHead}
use Rattle.gfx_prog_block.specs.declared.tile.TileHead.{TileHead}

-- TS_RFX_RECT of [MS-RDPRFX]
abbrev pub area : Shape Area
area = record {
  sizes = u16 ∷ u16 ∷ u16 ∷ u16 ∷ [];
  row = λ a. (a.x, (a.y, (a.width, (a.height, tt))));
  of_row = λ t. record { x = t.0; y = t.1.0; width = t.1.1.0; height = t.1.1.1.0 };
  there = λ a. refl;
  back = λ t. refl;
}

-- RFX_COMPONENT_CODEC_QUANT
abbrev pub packed_quant : Shape PackedQuant
packed_quant = record {
  sizes = u8 ∷ u8 ∷ u8 ∷ u8 ∷ u8 ∷ [];
  row = λ q. (q.ll3_hl3, (q.lh3_hh3, (q.hl2_lh2, (q.hh2_hl1, (q.lh1_hh1, tt)))));
  of_row = λ t. record { ll3_hl3 = t.0; lh3_hh3 = t.1.0; hl2_lh2 = t.1.1.0; hh2_hl1 = t.1.1.1.0; lh1_hh1 = t.1.1.1.1.0 };
  there = λ q. refl;
  back = λ t. refl;
}

-- its five bytes
abbrev pub quant_digits : PackedQuant → List ℕ
quant_digits q = q.ll3_hl3 ∷ q.lh3_hh3 ∷ q.hl2_lh2 ∷ q.hh2_hl1 ∷ q.lh1_hh1 ∷ []

-- RFX_PROGRESSIVE_CODEC_QUANT
abbrev pub region_level : Shape RegionLevel
region_level = record {
  sizes = u8 ∷ u8 ∷ u8 ∷ u8 ∷ u8 ∷ u8 ∷ u8 ∷ u8 ∷ u8 ∷ u8 ∷ u8 ∷ u8 ∷ u8 ∷ u8 ∷ u8 ∷ u8 ∷ [];
  row = λ l. (
    l.quality,
    (
      l.y.ll3_hl3,
      (
        l.y.lh3_hh3,
        (
          l.y.hl2_lh2,
          (
            l.y.hh2_hl1,
            (
              l.y.lh1_hh1,
              (
                l.cb.ll3_hl3,
                (
                  l.cb.lh3_hh3,
                  (
                    l.cb.hl2_lh2,
                    (
                      l.cb.hh2_hl1,
                      (
                        l.cb.lh1_hh1,
                        (l.cr.ll3_hl3, (l.cr.lh3_hh3, (l.cr.hl2_lh2, (l.cr.hh2_hl1, (l.cr.lh1_hh1, tt))))),
                      ),
                    ),
                  ),
                ),
              ),
            ),
          ),
        ),
      ),
    ),
  );
  of_row = λ (q, (y1, (y2, (y3, (y4, (y5, (b1, (b2, (b3, (b4, (b5, (r1, (r2, (r3, (r4, (r5, _)))))))))))))))). record {
    quality = q;
    y = record { ll3_hl3 = y1; lh3_hh3 = y2; hl2_lh2 = y3; hh2_hl1 = y4; lh1_hh1 = y5 };
    cb = record { ll3_hl3 = b1; lh3_hh3 = b2; hl2_lh2 = b3; hh2_hl1 = b4; lh1_hh1 = b5 };
    cr = record { ll3_hl3 = r1; lh3_hh3 = r2; hl2_lh2 = r3; hh2_hl1 = r4; lh1_hh1 = r5 };
  };
  there = λ l. refl;
  back = λ t. refl;
}

-- what stands first in every tile: three indices of quants, and the cell
abbrev pub tile_head : Shape TileHead
tile_head = record {
  sizes = u8 ∷ u8 ∷ u8 ∷ u16 ∷ u16 ∷ [];
  row = λ h. (h.quant_y, (h.quant_cb, (h.quant_cr, (h.x_idx, (h.y_idx, tt)))));
  of_row = λ t. record { quant_y = t.0; quant_cb = t.1.0; quant_cr = t.1.1.0; x_idx = t.1.1.1.0; y_idx = t.1.1.1.1.0 };
  there = λ h. refl;
  back = λ t. refl;
}

-- what stands first in a region: the size of its tiles, and how many of each it has
abbrev pub region_head : Shape RegionHead
region_head = record {
  sizes = u8 ∷ u16 ∷ u8 ∷ u8 ∷ u8 ∷ u16 ∷ u32 ∷ [];
  row = λ h. (h.tile_size, (h.rects, (h.quants, (h.levels, (h.flags, (h.tiles, (h.tile_bytes, tt)))))));
  of_row = λ t. record {
    tile_size = t.0;
    rects = t.1.0;
    quants = t.1.1.0;
    levels = t.1.1.1.0;
    flags = t.1.1.1.1.0;
    tiles = t.1.1.1.1.1.0;
    tile_bytes = t.1.1.1.1.1.1.0;
  };
  there = λ h. refl;
  back = λ t. refl;
}
