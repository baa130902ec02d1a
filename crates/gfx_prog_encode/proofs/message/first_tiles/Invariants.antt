use Rattle.std.proofs.Common.{◌≡◌, map, take}
use Rattle.std.specs.List.{AllByRecursion}
use Rattle.gfx_prog_block.specs.Fitting.{IsSpellableTile}
use Rattle.gfx_prog_encode.specs.Messages.{first_tile}
use Rattle.gfx_prog_encode.proofs.message.first_tiles.Given as goal

abbrev pub invariant-sends : goal.invariant-sends
invariant-sends l = (l.tiles ≡ map first_tile (take l.at l.sends)) × AllByRecursion IsSpellableTile l.tiles
