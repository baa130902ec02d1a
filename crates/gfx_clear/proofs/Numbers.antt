-- The limits and the numbers of the standard as they are, so that another number is another definition.
use Rattle.std.proofs.Common.{◌≡◌, refl}
use Rattle.gfx_clear.specs.declared.area.TheConstants.{AREA, RAW, RLEX}
use Rattle.gfx_clear.specs.declared.encoding.TheConstants.{MOST_PIXELS}
use Rattle.gfx_clear.specs.declared.head.TheConstants.{GLYPH_INDEX, GLYPH_HIT, CACHE_RESET}
use Rattle.gfx_clear.specs.declared.parts.TheConstants.{COUNTS}

pub numbers : (GLYPH_INDEX ≡ 1)
    × (GLYPH_HIT ≡ 2)
    × (CACHE_RESET ≡ 4)
    × (COUNTS ≡ 12)
    × (AREA ≡ 13)
    × (RAW ≡ 0)
    × (RLEX ≡ 2)
    × (MOST_PIXELS ≡ 8388608)
numbers = (refl, refl, refl, refl, refl, refl, refl, refl)
