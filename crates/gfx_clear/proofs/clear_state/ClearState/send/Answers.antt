use Rattle.std.proofs.Common.{Ok, sym, ap, ◌∙◌, arith}
use Rattle.gfx_clear.specs.Painting.{scene}
use Rattle.gfx_clear.specs.Sending.{sent}
use Rattle.gfx_clear.proofs.Step.{painting_is_step}
use Rattle.gfx_clear.proofs.clear_state.ClearState.send.Goals as goal

pub returns-clause-step : goal.returns-clause-step
returns-clause-step c =
    painting_is_step c.args.self.now c.encode.new.self c.args.surface.now c.args.rect c.args.layer c.args.glyph c.args.pixels.now c.in_ok-bytes.bytes c.deref.result.now c.cursors.ensures.held c.requires.picture
    (omega (arith, c.width.ensures, c.width.type_inv)) (omega (arith, c.height.ensures, c.height.type_inv))
    (c.in_ok-bytes.ensures.ok ∙ (λ i. sent c.args.self.now c.args.layer c.args.glyph (c.width.ensures i) (c.height.ensures i) c.args.pixels.now))
    (c.deref.ensures.value ∙ c.in_ok-shown.ensures)
    ∙ ap (λ z. Ok (scene c.encode.new.self z)) (sym c.put.ensures)
