-- The numbers of the standard as they are, so that another number is another definition.
use Rattle.std.proofs.Common.{◌≡◌, refl}
use Rattle.gfx_clear_bands.specs.declared.band.TheConstants.{HEAD}
use Rattle.gfx_clear_bands.specs.declared.word.TheConstants.{HIT, SHORT_HIT, OFF}

pub numbers : (HEAD ≡ 11) × (HIT ≡ 0x8000) × (SHORT_HIT ≡ 0x4000) × (OFF ≡ 0x100)
numbers = (refl, refl, refl, refl)
