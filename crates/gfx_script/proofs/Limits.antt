-- The limits on scripts as numbers, since the definitions name the code's own constants.
use Rattle.std.proofs.Common.{◌≡◌, refl}
use Rattle.gfx_script.specs.declared.TheConstants.{MOST_STEPS, MOST_STEPS_READ, MOST_RECTS, MOST_PICTURES, MOST_AREA, MOST_KEY, MOST_GLYPH, MOST_GLYPH_AREA, MOST_VERSIONS, MOST_WINDOW, MOST_TURNS}

pub limits : (MOST_STEPS ≡ 4000000000) × (MOST_RECTS ≡ 1024) × (MOST_PICTURES ≡ 1024) × (MOST_AREA ≡ 8388608) × (MOST_KEY ≡ 9223372036854775807)
limits = (refl, refl, refl, refl, refl)

pub limit_read : MOST_STEPS_READ ≡ 100000
limit_read = refl

pub glyph_limits : (MOST_GLYPH ≡ 3999) × (MOST_GLYPH_AREA ≡ 1024)
glyph_limits = (refl, refl)

pub session_limits : (MOST_VERSIONS ≡ 8) × (MOST_WINDOW ≡ 64) × (MOST_TURNS ≡ 1000000)
session_limits = (refl, refl, refl)
