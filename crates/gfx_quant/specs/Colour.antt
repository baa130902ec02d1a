-- The colour transforms both ways ([MS-RDPRFX] 3.1.8.1.3 and 3.1.8.2.5), in whole numbers.
use Rattle.std.specs.Prelude.{ℕ, ◌+◌, ◌*◌, min, ℤ, pos, negsuc, ◌+ℤ◌, ◌-ℤ◌, ◌*ℤ◌}
use Rattle.std.specs.Int.{int_shr}
use Rattle.gfx_base.specs.declared.pixel.Pixel.{Pixel}
use Rattle.gfx_quant.specs.declared.colour.TheConstants.{CR_IN_RED, CB_IN_GREEN, CR_IN_GREEN, CB_IN_BLUE}

-- a number cut to the range of a byte
abbrev pub clamped : ℤ → ℕ
clamped (pos n) = min n 255
clamped (negsuc n) = 0

-- Y without its shift below nought, 65,536 standing for one
abbrev pub lifted : ℤ → ℤ
lifted y = (y +ℤ pos 4096) *ℤ pos 65536

-- a channel of a pixel, from Y and what Cb and Cr add to it; samples are 32 times as large as a channel
unfoldable pub channel : ℤ → ℤ → ℕ
channel y added = clamped (int_shr (lifted y +ℤ added) 21)

-- the pixel of three samples; it is opaque
abbrev pub colour_of : ℤ → ℤ → ℤ → Pixel
colour_of y cb cr = record {
  b = channel y (CB_IN_BLUE *ℤ cb);
  g = channel y (CB_IN_GREEN *ℤ cb +ℤ CR_IN_GREEN *ℤ cr);
  r = channel y (CR_IN_RED *ℤ cr);
  a = 255;
}

-- the sample Y of a pixel
abbrev pub luma : Pixel → ℤ
luma p = int_shr (pos (19595 * p.r + 38470 * p.g + 7471 * p.b) -ℤ pos (128 * 65536)) 11

-- the sample Cb of a pixel
abbrev pub chroma_blue : Pixel → ℤ
chroma_blue p = int_shr (pos (32807 * p.b) -ℤ pos (11071 * p.r + 21736 * p.g)) 11

-- the sample Cr of a pixel
abbrev pub chroma_red : Pixel → ℤ
chroma_red p = int_shr (pos (32756 * p.r) -ℤ pos (27429 * p.g + 5327 * p.b)) 11
