-- The limits of the standard and the numbers of the index as they are, so that another number is another definition.
use Rattle.std.proofs.Common.{◌≡◌, refl}
use Rattle.gfx_glyph.specs.declared.glyphs.TheConstants.{PLACES, MOST_AREA}
use Rattle.gfx_glyph.specs.declared.print.TheConstants.{HOMES}

pub numbers : (PLACES ≡ 4000) × (MOST_AREA ≡ 1024) × (HOMES ≡ 4096)
numbers = (refl, refl, refl)
