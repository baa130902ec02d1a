-- The numbers of the standard as they are, so that another number is another definition.
use Rattle.std.proofs.Common.{◌≡◌, refl}
use Rattle.gfx_srl.specs.declared.params.TheConstants.{PARAMETER_MAX, PARAMETER_START, FRACTION, RUN_UP, VALUE_DOWN}

pub numbers : (PARAMETER_MAX ≡ 80) × (PARAMETER_START ≡ 8) × (FRACTION ≡ 8) × (RUN_UP ≡ 4) × (VALUE_DOWN ≡ 6)
numbers = (refl, refl, refl, refl, refl)
