use Rattle.std.proofs.Common.{◌≡◌, Some, drop}
use Rattle.gfx_script.specs.Writes.{area, at_each}
use Rattle.gfx_planner.specs.Passes.{ended_by}
use Rattle.gfx_planner.proofs.passes.end_at_each.Given as goal

abbrev pub invariant-points : goal.invariant-points
invariant-points l = ended_by l.passes (Some (area l.fn.id (at_each (drop l.point-index l.fn.points) l.fn.rect))) ≡ ended_by l.fn.passes (Some (area l.fn.id (at_each l.fn.points l.fn.rect)))
