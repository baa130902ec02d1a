-- The limits and the numbers of the standard as they are, so that another number is another definition.
use Rattle.std.proofs.Common.{◌≡◌, refl}
use Rattle.gfx_segment.specs.declared.profile.TheConstants.{PREFIX, MOST_PAYLOAD, SINGLE, MULTIPART, SIZE_AT, SEGMENTS_AT, TYPES, RDP8, COMPRESSED, MOST_BLOCK}

pub numbers : (PREFIX ≡ 4)
    × (MOST_PAYLOAD ≡ 67000000)
    × (SINGLE ≡ 0xE0)
    × (MULTIPART ≡ 0xE1)
    × (SIZE_AT ≡ 2)
    × (SEGMENTS_AT ≡ 6)
    × (TYPES ≡ 16)
    × (RDP8 ≡ 4)
    × (COMPRESSED ≡ 0x20)
    × (MOST_BLOCK ≡ 65535)
numbers = (refl, refl, refl, refl, refl, refl, refl, refl, refl, refl)
