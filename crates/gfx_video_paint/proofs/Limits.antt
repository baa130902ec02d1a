-- The numbers of the definitions, as they are.
use Rattle.std.proofs.Common.{◌≡◌, refl}
use Rattle.gfx_prog_encode.specs.declared.TheConstants.{MOST_SENDS}

-- a message takes up to 256 tiles
most_tiles : MOST_SENDS ≡ 256
most_tiles = refl
