-- The limits as they are, so that another number is another definition.
use Rattle.std.proofs.Common.{◌≡◌, refl}
use Rattle.gfx_surface_map.specs.declared.TheConstants.{MOST_SURFACES, MOST_CELLS}
use Rattle.gfx_surface_map.specs.declared.place.TheConstants.{MOST_OUTPUT_SIDE}

pub numbers : (MOST_SURFACES ≡ 1024) × (MOST_CELLS ≡ 16384) × (MOST_OUTPUT_SIDE ≡ 32766)
numbers = (refl, refl, refl)
