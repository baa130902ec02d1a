use Rattle.std.proofs.Common.{◌∙◌, ap, sym}
use Rattle.std.specs.FinMap.{get}
use Rattle.gfx_base.proofs.MapLemmas.{get-entries_lookup}
use Rattle.gfx_surface_map.proofs.table.Table.get.Goals as goal

pub returns : goal.returns
returns c =
    c.get.ensures.value ∙ sym (get-entries_lookup c.self.inside.surfaces.entries c.args.id)
    ∙ ap (λ m. get m c.args.id) c.self.view_is
