use Rattle.gfx_clear.proofs.Canvases.{AllDrawn}
use Rattle.gfx_clear.proofs.pixels.is_all_drawn.Given as goal

abbrev pub invariant-pixels : goal.invariant-pixels
invariant-pixels l = AllDrawn l.canvas l.pixel-index
