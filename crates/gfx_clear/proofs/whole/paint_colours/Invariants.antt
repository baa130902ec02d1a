use Rattle.std.proofs.Common.{◌≡◌, map, take}
use Rattle.gfx_clear_bands.specs.Bars.{colours}
use Rattle.gfx_base.specs.Colour.{opaque}
use Rattle.gfx_clear.proofs.whole.paint_colours.Given as goal

abbrev pub invariant-pixels : goal.invariant-pixels
invariant-pixels l = take l.i l.out ≡ map opaque (colours l.i l.bytes)
