-- The numbers of the standard and the limits as they are, so that another number is another definition.
use Rattle.std.proofs.Common.{◌≡◌, refl}
use Rattle.gfx_dvc.specs.declared.profile.TheConstants.{KIND_AT, DATA_FIRST, DATA, DATA_FIRST_COMPRESSED, DATA_COMPRESSED, WIDTHS, TOTAL_WIDTH_AT, ONE_BYTE, TWO_BYTES, NO_WIDTH, CHANNEL, DATA_BYTE, NARROW_BYTE, WIDE_BYTE, PREFIX, MOST_FRAGMENT, MOST_LONE, MOST_NARROW, MOST_DATA, MOST_NARROW_DATA, MOST_WIDE_DATA}

pub numbers : (KIND_AT ≡ 16)
    × (DATA_FIRST ≡ 2)
    × (DATA ≡ 3)
    × (DATA_FIRST_COMPRESSED ≡ 6)
    × (DATA_COMPRESSED ≡ 7)
    × (WIDTHS ≡ 4)
    × (TOTAL_WIDTH_AT ≡ 4)
    × (ONE_BYTE ≡ 0)
    × (TWO_BYTES ≡ 1)
    × (NO_WIDTH ≡ 3)
numbers = (refl, refl, refl, refl, refl, refl, refl, refl, refl, refl)

pub limits : (CHANNEL ≡ 1)
    × (DATA_BYTE ≡ 0x30)
    × (NARROW_BYTE ≡ 0x24)
    × (WIDE_BYTE ≡ 0x28)
    × (PREFIX ≡ 2)
    × (MOST_FRAGMENT ≡ 1600)
    × (MOST_LONE ≡ 1590)
    × (MOST_NARROW ≡ 65535)
    × (MOST_DATA ≡ 1598)
    × (MOST_NARROW_DATA ≡ 1596)
    × (MOST_WIDE_DATA ≡ 1594)
limits = (refl, refl, refl, refl, refl, refl, refl, refl, refl, refl, refl)
