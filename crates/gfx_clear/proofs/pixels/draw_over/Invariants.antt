use Rattle.std.proofs.Common.{map}
use Rattle.gfx_clear_bands.specs.Canvas.{is_drawn}
use Rattle.gfx_base.specs.Colour.{colour_of}
use Rattle.gfx_clear.proofs.DrawnOver.{Over}
use Rattle.gfx_clear.proofs.pixels.draw_over.Given as goal

-- the first pixels are done
abbrev pub invariant-pixels : goal.invariant-pixels
invariant-pixels l = Over l.initial.pixels (map colour_of l.canvas) (map is_drawn l.canvas) l.i l.pixels
