use Rattle.std.proofs.Common.{◌≡◌, map, take}
use Rattle.gfx_base.specs.Colour.{opaque}
use Rattle.gfx_clear.proofs.subcodecs.paint_row.Given as goal

abbrev pub invariant-pixels : goal.invariant-pixels
invariant-pixels l = take l.i l.out ≡ map opaque (take l.i l.row)
