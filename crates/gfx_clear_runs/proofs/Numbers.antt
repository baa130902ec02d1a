-- The limit of the standard as it is, so that another number is another definition.
use Rattle.std.proofs.Common.{◌≡◌, refl}
use Rattle.gfx_clear_runs.specs.declared.palette.TheConstants.{PALETTE_MOST}

pub numbers : PALETTE_MOST ≡ 127
numbers = refl
