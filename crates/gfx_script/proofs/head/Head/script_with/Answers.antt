use Rattle.std.proofs.Common.{◌∙◌, ap, subst, sym}
use Rattle.gfx_caps.specs.Offers.{small_of, thin_of}
use Rattle.gfx_script.specs.Script.{IsAcceptedAtStart}
use Rattle.gfx_script.specs.Starting.{IsStart}
use Rattle.gfx_script.proofs.Builds.{head_accepted, head_seen}
use Rattle.gfx_script.proofs.head.Head.script_with.Goals as goal

pub new-requires-4 : goal.new-requires-4
new-requires-4 c =
    subst IsAcceptedAtStart (head_seen c.self.inside.parts _ _ _ _ _ _ c.new.ensures.items (c.small-small.ensures ∙ ap (λ head. small_of head.offers) (sym c.self.view_is)) (c.thin-thin.ensures ∙ ap (λ head. thin_of head.offers) (sym c.self.view_is)) c.new-2.ensures.items c.new-3.ensures.items)
    (head_accepted c.self.inside.parts c.args.start.items c.self.invariant (subst (λ head. IsStart c.args.start.items (small_of head.offers)) (sym c.self.view_is) c.requires))

pub returns-clause-accepted : goal.returns-clause-accepted
returns-clause-accepted c =
    subst IsAcceptedAtStart
    (head_seen c.self.inside.parts _ _ _ _ _ _ c.new.ensures.items (c.small-small.ensures ∙ ap (λ head. small_of head.offers) (sym c.self.view_is)) (c.thin-thin.ensures ∙ ap (λ head. thin_of head.offers) (sym c.self.view_is)) c.new-2.ensures.items c.new-3.ensures.items ∙ sym c.new-4.ensures)
    (head_accepted c.self.inside.parts c.args.start.items c.self.invariant (subst (λ head. IsStart c.args.start.items (small_of head.offers)) (sym c.self.view_is) c.requires))
