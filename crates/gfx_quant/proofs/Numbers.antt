-- The limits and the numbers of the standard as they are, so that another number is another definition.
use Rattle.std.proofs.Common.{◌≡◌, refl, pos, negsuc}
use Rattle.gfx_quant.specs.declared.colour.TheConstants.{CR_IN_RED, CB_IN_GREEN, CR_IN_GREEN, CB_IN_BLUE}
use Rattle.gfx_quant.specs.declared.quant.TheConstants.{LEAST_BASE, MOST_BITS}
use Rattle.gfx_quant.specs.declared.setting.TheConstants.{MOST_LEVELS, MOST_FALL}

pub numbers : (CR_IN_RED ≡ pos 91916)
    × (CB_IN_GREEN ≡ negsuc 22526)
    × (CR_IN_GREEN ≡ negsuc 46818)
    × (CB_IN_BLUE ≡ pos 115992)
    × (LEAST_BASE ≡ 6)
    × (MOST_BITS ≡ 15)
    × (MOST_LEVELS ≡ 7)
    × (MOST_FALL ≡ 6)
numbers = (refl, refl, refl, refl, refl, refl, refl, refl)
