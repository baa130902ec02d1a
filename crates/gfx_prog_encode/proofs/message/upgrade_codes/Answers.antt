use Rattle.std.proofs.Common.{◌∙◌, ◌++◌, ◌∷◌, [], sym, subst}
use Rattle.std.specs.List.{All}
use Rattle.gfx_prog_encode.specs.declared.send.TileSend.{TileSend}
use Rattle.gfx_prog_encode.specs.Inside.{AreShortPasses, passes}
use Rattle.gfx_prog_encode.proofs.Lists.{all-more, image-more}
use Rattle.gfx_prog_encode.proofs.message.upgrade_codes.Goals as goal

pub sends-preserved : goal.sends-preserved
sends-preserved c = (
  c.in_ok-push.ensures.items
      ∙ (λ i. c.sends.invariant.0 i ++ c.in_ok-upgrade_data.ensures.value i ∷ [])
      ∙ image-more (λ (send : TileSend). passes send.tile send.level) c.args.sends.now c.sends.send-index c.send-item.result c.sends-test.true c.send-item.is,
  subst (All AreShortPasses) (sym c.in_ok-push.ensures.items) (all-more AreShortPasses c.sends.codes.items c.in_ok-upgrade_data.field-0 c.sends.invariant.1 c.in_ok-upgrade_data.ensures.short),
)
