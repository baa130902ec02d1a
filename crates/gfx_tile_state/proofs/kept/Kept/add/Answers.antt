use Rattle.std.proofs.Common.{◌∙◌, ap, sym}
use Rattle.gfx_tile_state.specs.Passes.{added, kept_in}
use Rattle.gfx_tile_state.proofs.Parts.{added-blank}
use Rattle.gfx_tile_state.proofs.kept.Kept.add.Goals as goal

pub returns-then-self : goal.returns-then-self
returns-then-self c =
    c.load.ensures.value ∙ sym (ap (λ l. added l c.args.sums.now) (sym c.self.view_is ∙ ap (λ b. kept_in b c.self.inside.plane.items) c.if-self.true) ∙ added-blank c.args.sums.now c.requires)

pub returns-else-self : goal.returns-else-self
returns-else-self c =
    c.add.ensures
    ∙ ap (λ l. added l c.args.sums.now) (c.deref.ensures.value ∙ ap (λ b. kept_in b c.self.inside.plane.items) (sym c.if-self.false) ∙ c.self.view_is)
