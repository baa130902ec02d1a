-- The limits as numbers, so that another number is another definition.
use Rattle.std.proofs.Common.{◌≡◌, refl}
use Rattle.gfx_base.specs.declared.TheConstants.{MOST_MESSAGE}
use Rattle.gfx_dvc.specs.declared.profile.TheConstants.{PREFIX, MOST_FRAGMENT, MOST_LONE, MOST_NARROW}

pub numbers : (MOST_MESSAGE ≡ 67108864) × (PREFIX ≡ 2) × (MOST_FRAGMENT ≡ 1600) × (MOST_LONE ≡ 1590) × (MOST_NARROW ≡ 65535)
numbers = (refl, refl, refl, refl, refl)
