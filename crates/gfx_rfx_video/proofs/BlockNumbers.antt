-- The numbers of the standard as they are, so that another number is another definition.
use Rattle.std.proofs.Common.{◌≡◌, refl}
use Rattle.gfx_rfx_video.specs.declared.kinds.TheConstants.{TILE}

pub numbers : TILE ≡ 0xCAC3
numbers = refl
