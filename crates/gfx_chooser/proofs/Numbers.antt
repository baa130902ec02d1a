-- The limit as it is, so that another number is another definition.
use Rattle.std.proofs.Common.{◌≡◌, refl}
use Rattle.gfx_chooser.specs.declared.facts.TheConstants.{MOST_COLOURS}

pub numbers : MOST_COLOURS ≡ 128
numbers = refl
