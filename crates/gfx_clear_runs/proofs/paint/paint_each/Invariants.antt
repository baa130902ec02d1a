use Rattle.std.proofs.Common.{◌≡◌, ◌+◌, ◌++◌, map, take}
use Rattle.gfx_base.specs.Colour.{opaque}
use Rattle.gfx_clear_runs.proofs.paint.paint_each.Given as goal

abbrev pub invariant-colours : goal.invariant-colours
invariant-colours l = take (l.at + l.i) l.out ≡ take l.at l.fn.out ++ map opaque (take l.i l.colours)
