use Rattle.std.proofs.Common.{ap, ◌∙◌}
use Rattle.gfx_clear.specs.Inside.{state_of}
use Rattle.gfx_clear.specs.Sending.{sent}
use Rattle.gfx_clear.proofs.Sent.{sent_is}
use Rattle.gfx_clear.proofs.clear_state.ClearState.encode.Goals as goal

pub returns-in-Ok-clause-ok : goal.returns-in-Ok-clause-ok
returns-in-Ok-clause-ok c =
    c.in-Ok.ensures.ok
    ∙ sent_is (state_of c.self.inside) c.args.layer c.args.glyph c.args.width c.args.height c.args.pixels.now c.use_of-form.result c.mark.new.self.held c.unwrap_or-sequence.result
    c.use_of-form.ensures (ap (λ z. z.held) c.mark.ensures) c.unwrap_or-sequence.ensures
    ∙ ap (λ z. sent z c.args.layer c.args.glyph c.args.width c.args.height c.args.pixels.now) c.self.view_is
