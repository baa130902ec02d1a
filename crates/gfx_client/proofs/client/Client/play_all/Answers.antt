use Rattle.std.proofs.Common.{refl, ◌∙◌}
use Rattle.std.proofs.lemmas.Result.{err_from_is_err_and}
use Rattle.gfx_client.proofs.Noting.{noted_all, still_due}
use Rattle.gfx_client.proofs.Playing.{drained, goes_on, stopped}
use Rattle.gfx_client.proofs.client.Client.play_all.Goals as goal

pub returns-in_err-step-clause-plays : goal.returns-in_err-step-clause-plays
returns-in_err-step-clause-plays c = λ origin bytes s.
    let p = err_from_is_err_and c.from_residual.result c.from_residual.ensures.1 in
    rw (p.1, p.2) (stopped c.args.self.now c.steps.self c.step.new.self c.in_err-step.field-0.0 bytes c.steps.invariant.0 c.steps.invariant.1 c.in_err-step.ensures.steps s)

pub returns-then-needs_more-clause-plays : goal.returns-then-needs_more-clause-plays
returns-then-needs_more-clause-plays c = λ origin bytes s. drained c.args.self.now c.steps.self c.step.new.self bytes c.steps.invariant.0 c.steps.invariant.1 (rw (c.if-needs_more.ensures.0 refl) at c.in_ok-step.ensures.steps) s

pub returns-then-needs_more-clause-damage : goal.returns-then-needs_more-clause-damage
returns-then-needs_more-clause-damage c = noted_all c.steps.self c.step.new.self c.steps.invariant.1 (rw (c.if-needs_more.ensures.0 refl) at c.in_ok-step.ensures.steps) ∙ c.steps.invariant.3

pub steps-smaller : goal.steps-smaller
steps-smaller c = (goes_on c.args.self.now c.steps.self c.step.new.self c.in_ok-step.field-0 c.if-needs_more.ensures.1 c.steps.invariant.0 c.steps.invariant.1 c.in_ok-step.ensures.steps).lighter

pub steps-preserved : goal.steps-preserved
steps-preserved c =
    let on = goes_on c.args.self.now c.steps.self c.step.new.self c.in_ok-step.field-0 c.if-needs_more.ensures.1 c.steps.invariant.0 c.steps.invariant.1 c.in_ok-step.ensures.steps in (
      on.run,
      on.not_closed,
      c.in_ok-step.ensures.offers ∙ c.steps.invariant.2,
      still_due c.steps.self c.step.new.self c.in_ok-step.field-0 c.if-needs_more.ensures.1 c.steps.invariant.1 c.in_ok-step.ensures.steps ∙ c.steps.invariant.3,
      c.in_ok-step.ensures.living ∙ c.steps.invariant.4,
    )
