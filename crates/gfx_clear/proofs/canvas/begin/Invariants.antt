use Rattle.std.proofs.Common.{◌≡◌, map, take}
use Rattle.gfx_clear.specs.Canvas.{blank}
use Rattle.gfx_clear.proofs.canvas.begin.Given as goal

abbrev pub invariant-pixels : goal.invariant-pixels
invariant-pixels l = take l.i l.canvas ≡ map blank (take l.i l.background)
