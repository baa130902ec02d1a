use Rattle.gfx_surface_map.proofs.Entries.{ids-empty}
use Rattle.gfx_surface_map.proofs.table.Table.new.Goals as goal

pub invariant_of-result : goal.invariant_of-result
invariant_of-result c = ids-empty _ c.new.ensures.empty
