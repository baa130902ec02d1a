-- The limits of the standard as they are, so that another number is another definition.
use Rattle.std.proofs.Common.{◌≡◌, refl}
use Rattle.gfx_clear_store.specs.declared.store.TheConstants.{BARS, SHORTS, MOST_BAR, MOST_SHORT}

pub numbers : (BARS ≡ 32768) × (SHORTS ≡ 16384) × (MOST_BAR ≡ 52) × (MOST_SHORT ≡ 63)
numbers = (refl, refl, refl, refl)
