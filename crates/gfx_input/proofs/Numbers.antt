-- The constants as numbers, so that another number is another definition.
use Rattle.std.proofs.Common.{◌≡◌, refl}
use Rattle.gfx_input.specs.declared.reading.TheConstants.{PIECE}

pub numbers : PIECE ≡ 65536
numbers = refl
