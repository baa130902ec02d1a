use Rattle.std.proofs.Common.{◌∙◌, ap, sym}
use Rattle.gfx_base.proofs.MapLemmas.{get-entries_lookup}
use Rattle.gfx_damage.specs.Damage.{rects_in, rects_on}
use Rattle.gfx_damage.proofs.damage.Damage.rects.Goals as goal

pub returns-in-Some : goal.returns-in-Some
returns-in-Some c =
    c.as_slice.ensures ∙ ap rects_in (c.in-Some.ensures.value ∙ sym (get-entries_lookup c.self.inside.marks.entries c.args.surface))
    ∙ ap (λ d. rects_on d.marks c.args.surface) c.self.view_is

pub returns-in-None : goal.returns-in-None
returns-in-None c =
    ap rects_in (c.in-None.ensures.value ∙ sym (get-entries_lookup c.self.inside.marks.entries c.args.surface))
    ∙ ap (λ d. rects_on d.marks c.args.surface) c.self.view_is
