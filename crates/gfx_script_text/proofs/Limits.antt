-- The limits on the text of scripts as numbers, since the definitions name the code's own constants.
use Rattle.std.proofs.Common.{◌≡◌, refl}
use Rattle.gfx_script_text.specs.declared.TheConstants.{MOST_LEFT_OUT, MOST_NUMBER, MOST_TAKE}

pub limits : (MOST_NUMBER ≡ 65535) × (MOST_TAKE ≡ 4294967295) × (MOST_LEFT_OUT ≡ 9)
limits = (refl, refl, refl)
