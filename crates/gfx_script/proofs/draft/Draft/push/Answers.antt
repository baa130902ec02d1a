use Rattle.std.proofs.Common.{◌≡◌, ◌+◌, ◌∙◌, ◌++◌, [], ◌∷◌, ap, length, sym, arith}
use Rattle.gfx_script.specs.Drafts.{steps_so_far}
use Rattle.gfx_script.proofs.Drafting.{push_fits}
use Rattle.gfx_script.proofs.draft.Draft.push.Goals as goal

pub invariant_of-self-2 : goal.invariant_of-self-2
invariant_of-self-2 c =
    let count : c.self.inside.before + length c.self.inside.steps.items ≡ c.steps_so_far.result = ap steps_so_far c.self.view_is ∙ sym c.steps_so_far.ensures.count in
    push_fits c.self.inside.before c.self.inside.steps.items c.push.new.self.items c.args.step c.self.inside.held c.take.new.self
    (omega (arith, count, c.if-steps_so_far-ge-MOST_STEPS.false)) (c.in-Ok.ensures.items ∙ ap (λ list. list ++ c.args.step ∷ []) c.in_ok-reserve.ensures.items) c.self.invariant.1 c.in_ok-take.ensures.exact
