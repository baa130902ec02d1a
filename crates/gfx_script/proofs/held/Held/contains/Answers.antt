use Rattle.std.proofs.Common.{◌∙◌, ap, sym, is_some}
use Rattle.std.specs.FinMap.{contains_key}
use Rattle.gfx_base.proofs.MapLemmas.{get-entries_lookup}
use Rattle.gfx_script.proofs.held.Held.contains.Goals as goal

pub returns : goal.returns
returns c =
    c.contains_key.ensures ∙ ap is_some (sym (get-entries_lookup c.self.inside.sides.entries c.args.id))
    ∙ ap (λ h. contains_key h.sides c.args.id) c.self.view_is
