-- The limits as they are, so that another number is another definition.
use Rattle.std.proofs.Common.{◌≡◌, refl}
use Rattle.gfx_bitmap_cache.specs.declared.limits.TheConstants.{MOST_SLOTS, MOST_SMALL_SLOTS, MOST_BYTES, MOST_SMALL_BYTES}

pub numbers : (MOST_SLOTS ≡ 25600) × (MOST_BYTES ≡ 104857600) × (MOST_SMALL_SLOTS ≡ 4096) × (MOST_SMALL_BYTES ≡ 16777216)
numbers = (refl, refl, refl, refl)
