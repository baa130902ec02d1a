-- The numbers as they are, so that others are other definitions.
use Rattle.std.proofs.Common.{◌≡◌, refl}
use Rattle.gfx_estimate.specs.declared.columns.TheConstants.{WORD, PIXEL, PLACES}
use Rattle.gfx_estimate.specs.declared.sizes.TheConstants.{HEAD, TILE, STEP}

pub numbers : (HEAD ≡ 14) × (WORD ≡ 2) × (PIXEL ≡ 3) × (PLACES ≡ 32768) × (TILE ≡ 70) × (STEP ≡ 400)
numbers = (refl, refl, refl, refl, refl, refl)
