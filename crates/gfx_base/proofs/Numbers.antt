-- The limits and the numbers of the standard as they are, so that another number is another definition.
use Rattle.std.proofs.Common.{◌≡◌, refl}
use Rattle.gfx_base.specs.declared.format.TheConstants.{XRGB_BYTE, ARGB_BYTE}
use Rattle.gfx_base.specs.declared.geometry.TheConstants.{CELL_SIDE}
use Rattle.gfx_base.specs.declared.pixel.TheConstants.{BYTES_PER_PIXEL}
use Rattle.gfx_base.specs.declared.TheConstants.{MOST_MESSAGE}

pub numbers : (XRGB_BYTE ≡ 0x20)
    × (ARGB_BYTE ≡ 0x21)
    × (BYTES_PER_PIXEL ≡ 4)
    × (CELL_SIDE ≡ 64)
    × (MOST_MESSAGE ≡ 67108864)
numbers = (refl, refl, refl, refl, refl)
