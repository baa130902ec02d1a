use Rattle.gfx_surface.proofs.FoundLemmas.{kept_popped}
use Rattle.gfx_surface.proofs.KeptLemmas.{back_popped}
use Rattle.gfx_surface.proofs.log.CellLog.put_back.Goals as goal

pub cells-preserved : goal.cells-preserved
cells-preserved c =
    back_popped c.cells.self.cells.items c.pop.new.self.items c.in-Some.kept c.cells.surface c.put_cell_back.new.surface _
    c.in-Some.ensures.items c.put_cell_back.ensures c.cells.invariant

pub invariant_of-self-clause-found : goal.invariant_of-self-clause-found
invariant_of-self-clause-found c = kept_popped c.pop.new.self.items c.cells.self.cells.items c.in-Some.kept c.cells.self.places.items c.cells.self.found c.in-Some.ensures.items
