-- The numbers of the standard as they are, so that another number is another definition.
use Rattle.std.proofs.Common.{◌≡◌, refl}
use Rattle.gfx_prog_block.specs.declared.region.TheConstants.{TILE_SIZE, REDUCED}
use Rattle.gfx_prog_block.specs.declared.tile.TheConstants.{DIFFERENCE, NO_QUALITY}

pub numbers : (TILE_SIZE ≡ 64) × (REDUCED ≡ 1) × (DIFFERENCE ≡ 1) × (NO_QUALITY ≡ 0xFF)
numbers = (refl, refl, refl, refl)
