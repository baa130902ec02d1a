use Rattle.std.proofs.Common.{◌≡◌, Some, drop}
use Rattle.gfx_script.specs.Writes.{area}
use Rattle.gfx_planner.specs.Passes.{ended_by}
use Rattle.gfx_planner.proofs.passes.end_in_each.Given as goal

abbrev pub invariant-rects : goal.invariant-rects
invariant-rects l = ended_by l.passes (Some (area l.fn.id (drop l.rect-index l.fn.rects))) ≡ ended_by l.fn.passes (Some (area l.fn.id l.fn.rects))
