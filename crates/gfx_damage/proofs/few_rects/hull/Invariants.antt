use Rattle.std.proofs.Common.{◌≡◌, drop}
use Rattle.std.specs.List.{fold}
use Rattle.gfx_damage.specs.Marks.{joined}
use Rattle.gfx_damage.proofs.few_rects.hull.Given as goal

abbrev pub invariant-rects : goal.invariant-rects
invariant-rects l = fold joined l.hull (drop l.other-index l.rects) ≡ fold joined l.fn.rect l.rects
