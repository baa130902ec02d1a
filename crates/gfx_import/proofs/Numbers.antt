-- The constants as numbers, so that another number is another definition.
use Rattle.std.proofs.Common.{◌≡◌, refl}
use Rattle.gfx_import.specs.declared.limits.TheConstants.{MARK, MOST_ENTRIES, MOST_FILE, MOST_PIXELS, OFFER, REPLY}

pub file : (MARK ≡ 0x5450454B) × (MOST_ENTRIES ≡ 5461) × (MOST_FILE ≡ 67108864) × (MOST_PIXELS ≡ 16777216)
file = (refl, refl, refl, refl)

pub messages : (OFFER ≡ 0x10) × (REPLY ≡ 0x11)
messages = (refl, refl)
