-- The limits and the numbers of the standard as they are, so that another number is another definition.
use Rattle.std.proofs.Common.{◌≡◌, refl}
use Rattle.gfx_rlgr.specs.declared.params.TheConstants.{TERMS, MAGNITUDE_MAX, PARAMETER_MAX, PARAMETER_START, FRACTION, RUN_UP, RUN_DOWN, VALUE_UP, VALUE_DOWN, CODE_DOWN}

pub numbers : (TERMS ≡ 4096)
    × (MAGNITUDE_MAX ≡ 32767)
    × (PARAMETER_MAX ≡ 80)
    × (PARAMETER_START ≡ 8)
    × (FRACTION ≡ 8)
    × (RUN_UP ≡ 4)
    × (RUN_DOWN ≡ 6)
    × (VALUE_UP ≡ 3)
    × (VALUE_DOWN ≡ 3)
    × (CODE_DOWN ≡ 2)
numbers = (refl, refl, refl, refl, refl, refl, refl, refl, refl, refl)
