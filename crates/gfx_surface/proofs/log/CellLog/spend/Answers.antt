use Rattle.gfx_surface.proofs.FoundLemmas.{kept_popped}
use Rattle.gfx_surface.proofs.log.CellLog.spend.Goals as goal

pub invariant_of-self-clause-found : goal.invariant_of-self-clause-found
invariant_of-self-clause-found c = kept_popped c.pop.new.self.items c.cells.self.cells.items c.in-Some.kept c.cells.self.places.items c.cells.self.found c.in-Some.ensures.items
