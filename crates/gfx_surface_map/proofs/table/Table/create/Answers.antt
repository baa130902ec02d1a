use Rattle.std.proofs.Common.{◌∙◌, ap, sym, subst, Ok}
use Rattle.std.specs.FinMap.{insert, from_entries}
use Rattle.gfx_surface_map.specs.Inside.{AreIds}
use Rattle.gfx_base.proofs.MapLemmas.{updated_map}
use Rattle.gfx_surface_map.proofs.Entries.{ids-insert}
use Rattle.gfx_surface_map.proofs.CreatedLemmas.{created-ok}
use Rattle.gfx_surface_map.proofs.table.Table.create.Goals as goal

pub invariant_of-self-2 : goal.invariant_of-self-2
invariant_of-self-2 c =
    subst AreIds (sym (updated_map c.self.inside.surfaces.entries c.insert.new.self.entries c.args.id c.in_ok-surface.surface c.in_ok-insert.ensures.updates.0))
    (ids-insert (from_entries c.self.inside.surfaces.entries) c.args.id c.in_ok-surface.surface c.ranges.id.fits c.self.invariant)

pub returns-clause-ok : goal.returns-clause-ok
returns-clause-ok c =
    created-ok c.args.self.now c.args.id c.args.width c.args.height c.args.format
    c.requires.fresh c.requires.sides c.requires.room
    ∙ ap Ok (sym (
    updated_map c.self.inside.surfaces.entries c.insert.new.self.entries c.args.id c.in_ok-surface.surface c.in_ok-insert.ensures.updates.0
    ∙ (λ i. insert (c.self.view_is i) c.args.id (c.in_ok-surface.ensures i))))
