use Rattle.std.proofs.Common.{◌∙◌, ◌^◌, ap, subst}
use Rattle.std.specs.FinMap.{entries}
use Rattle.gfx_base.proofs.MapLemmas.{from_key-past}
use Rattle.gfx_surface_map.specs.Inside.{AreIds}
use Rattle.gfx_surface_map.specs.Order.{from_id, first_id}
use Rattle.gfx_surface_map.proofs.OrderLemmas.{first_id-from_entries}
use Rattle.gfx_surface_map.proofs.table.Table.next_id.Goals as goal

pub returns-clause-next : goal.returns-clause-next
returns-clause-next c =
    first_id-from_entries c.self.inside.surfaces.entries c.args.from c.least_from.result c.least_from.ensures.least
    ∙ ap (λ m. first_id (from_id c.args.from (entries m))) c.self.view_is

pub returns-clause-past : goal.returns-clause-past
returns-clause-past c = from_key-past (2 ^ 16) c.args.self.now (subst AreIds c.self.view_is c.self.invariant)
