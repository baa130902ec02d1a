-- The constants as numbers, so that another number is another definition.
use Rattle.std.proofs.Common.{◌≡◌, refl}
use Rattle.gfx_import.specs.declared.limits.TheConstants.{MOST_FILE}
use Rattle.gfx_kept_input.specs.declared.file.TheConstants.{PREFIX}

pub numbers : (PREFIX ≡ 4) × (MOST_FILE ≡ 67108864)
numbers = (refl, refl)
