-- The constants as numbers, so that another number is another definition.
use Rattle.std.proofs.Common.{◌≡◌, refl}
use Rattle.gfx_prog_encode.specs.declared.TheConstants.{MOST_SENDS, CONTEXT}

pub numbers : (MOST_SENDS ≡ 256) × (CONTEXT ≡ 1)
numbers = (refl, refl)
