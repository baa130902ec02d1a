-- The constants as numbers, so that another number is another definition.
use Rattle.std.proofs.Common.{◌≡◌, refl}
use Rattle.gfxpipe.specs.declared.program.TheConstants.{STREAM_LIMIT, SCRIPT_LIMIT}

pub numbers : (STREAM_LIMIT ≡ 1073741824) × (SCRIPT_LIMIT ≡ 67108864)
numbers = (refl, refl)
