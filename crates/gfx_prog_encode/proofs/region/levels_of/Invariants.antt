use Rattle.std.proofs.Common.{◌≡◌, take}
use Rattle.gfx_prog_encode.specs.Messages.{levels_from}
use Rattle.gfx_prog_encode.proofs.region.levels_of.Given as goal

abbrev pub invariant-levels : goal.invariant-levels
invariant-levels l = (l.listed ≡ levels_from 0 (take l.level-index l.levels)) × (l.quality ≡ l.level-index)
