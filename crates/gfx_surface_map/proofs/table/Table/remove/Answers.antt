use Rattle.std.proofs.Common.{◌∙◌, ap, sym, subst}
use Rattle.std.specs.FinMap.{remove, from_entries}
use Rattle.gfx_surface_map.specs.Inside.{AreIds}
use Rattle.gfx_base.proofs.MapLemmas.{removed_map}
use Rattle.gfx_surface_map.proofs.Entries.{ids-remove}
use Rattle.gfx_surface_map.proofs.table.Table.remove.Goals as goal

pub invariant_of-self : goal.invariant_of-self
invariant_of-self c =
    subst AreIds (sym (removed_map c.self.inside.surfaces.entries c.shift_remove.new.self.entries c.args.id c.shift_remove.ensures.updates.0))
    (ids-remove (from_entries c.self.inside.surfaces.entries) c.args.id c.self.invariant)

pub returns : goal.returns
returns c =
    removed_map c.self.inside.surfaces.entries c.shift_remove.new.self.entries c.args.id c.shift_remove.ensures.updates.0
    ∙ ap (λ m. remove m c.args.id) c.self.view_is
