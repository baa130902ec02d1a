use Rattle.std.proofs.Common.{◌≡◌, take}
use Rattle.gfx_window.specs.Hulls.{hull_of}
use Rattle.gfx_window.proofs.covering.hull_of.Given as goal

abbrev pub invariant-rects : goal.invariant-rects
invariant-rects l = l.hull ≡ hull_of (take l.rect-index l.rects)
