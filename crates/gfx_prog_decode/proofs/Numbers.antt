-- The limit as it is, so that another number is another definition.
use Rattle.std.proofs.Common.{◌≡◌, refl}
use Rattle.gfx_prog_decode.specs.declared.TheConstants.{MOST_RECORDS}

pub numbers : MOST_RECORDS ≡ 16384
numbers = refl
