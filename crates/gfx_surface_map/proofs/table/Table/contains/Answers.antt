use Rattle.std.proofs.Common.{◌∙◌, ap, sym, is_some}
use Rattle.std.specs.FinMap.{contains_key}
use Rattle.gfx_base.proofs.MapLemmas.{get-entries_lookup}
use Rattle.gfx_surface_map.proofs.table.Table.contains.Goals as goal

pub returns : goal.returns
returns c =
    c.contains_key.ensures ∙ ap is_some (sym (get-entries_lookup c.self.inside.surfaces.entries c.args.id))
    ∙ ap (λ m. contains_key m c.args.id) c.self.view_is
