use Rattle.std.proofs.Common.{◌≡◌, length}
use Rattle.gfx_surface.specs.Kept.{put_back}
use Rattle.gfx_surface.proofs.log.CellLog.put_back.Given as goal

-- what is left of the log puts back what all of it does
abbrev pub invariant-cells : goal.invariant-cells
invariant-cells l = put_back l.self.cells.items l.surface ≡ put_back l.initial.self.cells.items l.initial.surface

abbrev pub decreases-cells : goal.decreases-cells
decreases-cells l = length l.self.cells.items
