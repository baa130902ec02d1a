use Rattle.std.proofs.Common.{List, arith}
use Rattle.toml.specs.View.{view}
use Rattle.gfx_script_text.proofs.Runs.{steps-next, steps-stop, steps-end}
use Rattle.gfx_script.specs.declared.step.Step.{Step}
use Rattle.gfx_script_text.proofs.Faults.{told_at}
use Rattle.gfx_script_text.proofs.reading.read_steps.Goals as goal

pub returns-in-Err : goal.returns-in-Err
returns-in-Err c =
    rw c.at.ensures
    (told_at {X = Step} {Z = List Step} (λ step. (step, c.next_step.new.held)) (λ steps. steps) _ _ c.values.number c.in-Err.flaw
    (λ kind is. steps-stop view c.args.names.now c.args.values.now c.values.value-index c.value-item.result c.values.number c.values.held c.values.steps.items kind _ c.values-test.true
    c.value-item.is is c.values.invariant.so_far) c.in-Err.ensures)

pub values-preserved : goal.values-preserved
values-preserved c = record {
  number = omega (arith, c.values.invariant.number);
  so_far =
      let h = c.in_ok-push-in-Ok.ensures.items in
      rw h
      (steps-next view c.args.names.now c.args.values.now c.values.value-index c.value-item.result c.values.number c.values.held c.next_step.new.held c.values.steps.items c.in-Ok.step _
      c.values-test.true c.value-item.is c.in-Ok.ensures c.values.invariant.so_far);
}

pub returns : goal.returns
returns c = steps-end view c.args.names.now c.args.values.now c.values.value-index c.values.number c.values.held c.values.steps.items _ c.values-test.false c.values.invariant.so_far
