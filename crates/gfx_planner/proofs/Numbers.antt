-- The constants as numbers, so that another number is another definition.
use Rattle.std.proofs.Common.{◌≡◌, refl}
use Rattle.gfx_planner.specs.declared.planner.TheConstants.{MOST_FRAMES}
use Rattle.gfx_planner.specs.declared.messages.TheConstants.{PRIMARY}

pub numbers : (MOST_FRAMES ≡ 4000000000) × (PRIMARY ≡ 1)
numbers = (refl, refl)
