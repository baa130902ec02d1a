use Rattle.std.proofs.Common.{length}
use Rattle.gfx_surface.proofs.log.CellLog.spend.Given as goal

abbrev pub decreases-cells : goal.decreases-cells
decreases-cells l = length l.self.cells.items
