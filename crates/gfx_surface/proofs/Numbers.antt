-- The limits as they are, so that another number is another definition.
use Rattle.std.proofs.Common.{◌≡◌, refl}
use Rattle.gfx_surface.specs.declared.TheConstants.{MOST_SIDE}
use Rattle.gfx_surface.specs.declared.log.TheConstants.{MOST_SPARE}

pub numbers : (MOST_SIDE ≡ 8192) × (MOST_SPARE ≡ 2048)
numbers = (refl, refl)
