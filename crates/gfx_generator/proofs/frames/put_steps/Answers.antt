use Rattle.std.proofs.Common.{arith}
use Rattle.gfx_generator.specs.Steps.{step}
use Rattle.gfx_generator.specs.Texts.{step_text}
use Rattle.gfx_generator.proofs.Severals.{Left_all, Left_next, Left_none}
use Rattle.gfx_generator.proofs.frames.put_steps.Goals as goal

pub steps-init : goal.steps-init
steps-init c = Left_all step_text step _ _ _ _ (omega arith)

pub steps-preserved : goal.steps-preserved
steps-preserved c =
    let line = rw (c.as_slice.ensures, c.step_text.ensures, c.draw_step-step.ensures.value) at c.in_ok-append.ensures.ok in
    Left_next step_text step _ _ _ _ _ _ _ _ (omega arith) c.draw_step-step.ensures.state line c.steps.invariant

pub returns-clause-text : goal.returns-clause-text
returns-clause-text c = (Left_none step_text step _ _ _ _ _ _ (omega arith) c.steps.invariant).0

pub returns-clause-state : goal.returns-clause-state
returns-clause-state c = (Left_none step_text step _ _ _ _ _ _ (omega arith) c.steps.invariant).1
