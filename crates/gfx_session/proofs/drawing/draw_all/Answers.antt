use Rattle.std.proofs.Common.{◌∙◌, ◌∷◌, ◌++◌, [], ap, sym}
use Rattle.gfx_session.proofs.DrawnSteps.{draws_frame, draws_message, draws_rest, goes_by, needs, needs_brought, no_frame, no_message, waits_on}
use Rattle.gfx_session.proofs.drawing.draw_all.Goals as goal

pub returns-in-Nothing-clause-run : goal.returns-in-Nothing-clause-run
returns-in-Nothing-clause-run c =
    let is = sym c.drawn_by.ensures ∙ c.in-Nothing.is in
    waits_on c.args.client.now c.steps.client c.next_step.new.client c.steps.invariant.0 (needs _ _ _ is c.in_ok-stepped.ensures.steps)

pub returns-in-Nothing-clause-draws : goal.returns-in-Nothing-clause-draws
returns-in-Nothing-clause-draws c =
    let is = sym c.drawn_by.ensures ∙ c.in-Nothing.is in
    draws_rest c.args.digests c.args.client.now c.steps.client c.next_step.new.client c.args.up.now c.steps.up c.args.drawn.now.items c.steps.drawn.items c.steps.invariant.2.0 (λ origin bytes all b. needs_brought _ bytes all _ is (c.in_ok-stepped.ensures.brings origin bytes all b))

pub steps-smaller-in-Message : goal.steps-smaller-in-Message
steps-smaller-in-Message c =
    let is = sym c.drawn_by.ensures ∙ c.in-Message.is in
    (goes_by c.args.client.now c.steps.client c.next_step.new.client _ (no_message _ is) c.steps.invariant.0 c.steps.invariant.1 c.in_ok-stepped.ensures.steps).lighter

pub steps-preserved-in-Message : goal.steps-preserved-in-Message
steps-preserved-in-Message c =
    let is = sym c.drawn_by.ensures ∙ c.in-Message.is in
    let on = goes_by c.args.client.now c.steps.client c.next_step.new.client _ (no_message _ is) c.steps.invariant.0 c.steps.invariant.1 c.in_ok-stepped.ensures.steps in
    (on.run, on.not_closed, (draws_message c.args.digests c.args.client.now c.steps.client c.next_step.new.client _ c.args.up.now c.steps.up c.args.drawn.now.items c.steps.drawn.items is c.steps.invariant.2.0 c.in_ok-stepped.ensures.brings, c.in_ok-stepped.ensures.offers ∙ c.steps.invariant.2.1))

pub steps-smaller : goal.steps-smaller
steps-smaller c =
    let is = sym c.drawn_by.ensures ∙ c.in-Frame.is in
    (goes_by c.args.client.now c.steps.client c.next_step.new.client _ (no_frame _ _ is) c.steps.invariant.0 c.steps.invariant.1 c.in_ok-stepped.ensures.steps).lighter

pub steps-preserved : goal.steps-preserved
steps-preserved c =
    let is = sym c.drawn_by.ensures ∙ c.in-Frame.is in
    let on = goes_by c.args.client.now c.steps.client c.next_step.new.client _ (no_frame _ _ is) c.steps.invariant.0 c.steps.invariant.1 c.in_ok-stepped.ensures.steps in
    let noted = c.in_ok-push_back-in-Frame.ensures.items ∙ ap (λ z. c.steps.drawn.items ++ z ∷ []) c.noted_of-state.ensures in
    (on.run, on.not_closed, (draws_frame c.args.digests c.args.client.now c.steps.client c.next_step.new.client _ _ c.args.up.now c.steps.up c.put.new.self c.args.drawn.now.items c.steps.drawn.items c.push_back.new.self.items is c.steps.invariant.2.0 c.in_ok-stepped.ensures.brings c.in_ok-put-in-Frame.ensures.ok noted, c.in_ok-stepped.ensures.offers ∙ c.steps.invariant.2.1))
