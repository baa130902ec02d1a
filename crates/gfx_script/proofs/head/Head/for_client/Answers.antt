use Rattle.std.proofs.Common.{◌∙◌, [], ◌∷◌, ◌++◌, ap, arith}
use Rattle.gfx_script.specs.Heads.{offer_chosen}
use Rattle.gfx_script.proofs.HeadLemmas.{one_offered}
use Rattle.gfx_script.proofs.head.Head.for_client.Goals as goal

pub invariant_of-result : goal.invariant_of-result
invariant_of-result c =
    one_offered _ (offer_chosen c.args.chosen) c.push.new.self c.usual_setting.result _ _ (omega arith) (omega arith) c.requires
    (c.in_ok-push.ensures.ok ∙ ap (λ list. list ++ c.offer_chosen.result ∷ []) c.new-offers.ensures ∙ ap (λ offer. offer ∷ []) c.offer_chosen.ensures) c.usual_setting.ensures
