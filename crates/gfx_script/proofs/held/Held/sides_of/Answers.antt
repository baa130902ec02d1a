use Rattle.std.proofs.Common.{◌∙◌, ap, sym}
use Rattle.std.specs.FinMap.{get}
use Rattle.gfx_base.proofs.MapLemmas.{get-entries_lookup}
use Rattle.gfx_script.proofs.held.Held.sides_of.Goals as goal

pub returns : goal.returns
returns c =
    c.copied.ensures ∙ c.get.ensures.value ∙ sym (get-entries_lookup c.self.inside.sides.entries c.args.id)
    ∙ ap (λ h. get h.sides c.args.id) c.self.view_is
