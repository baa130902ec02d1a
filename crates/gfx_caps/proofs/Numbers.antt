-- The constants as numbers, so that another number is another definition.
use Rattle.std.proofs.Common.{◌≡◌, refl}
use Rattle.gfx_caps.specs.declared.message.TheConstants.{SUSPENDS}
use Rattle.gfx_caps.specs.declared.offer.TheConstants.{MOST_OFFERS}
use Rattle.gfx_caps.specs.declared.versions.TheConstants.{VERSION_8, VERSION_8_1, VERSION_10, FLAGS_SIZE, THIN_CLIENT, SMALL_CACHE, AVC_DISABLED}

pub versions : (VERSION_8 ≡ 0x00080004) × (VERSION_8_1 ≡ 0x00080105) × (VERSION_10 ≡ 0x000A0002)
versions = (refl, refl, refl)

pub flags : (FLAGS_SIZE ≡ 4) × (THIN_CLIENT ≡ 1) × (SMALL_CACHE ≡ 2) × (AVC_DISABLED ≡ 0x20)
flags = (refl, refl, refl, refl)

pub most : MOST_OFFERS ≡ 65535
most = refl

pub suspending : SUSPENDS ≡ 0xFFFFFFFF
suspending = refl
