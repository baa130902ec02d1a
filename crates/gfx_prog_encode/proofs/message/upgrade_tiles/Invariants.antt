use Rattle.std.proofs.Common.{◌≡◌, map, take}
use Rattle.std.specs.List.{AllByRecursion}
use Rattle.gfx_prog_block.specs.Fitting.{IsSpellableTile}
use Rattle.gfx_prog_encode.specs.Messages.{upgrade_tile}
use Rattle.gfx_prog_encode.proofs.message.upgrade_tiles.Given as goal

abbrev pub invariant-sends : goal.invariant-sends
invariant-sends l = (l.tiles ≡ map (upgrade_tile l.setting) (take l.at l.sends)) × AllByRecursion IsSpellableTile l.tiles
