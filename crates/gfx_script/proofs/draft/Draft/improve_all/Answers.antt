use Rattle.std.proofs.Common.{◌∙◌, arith}
use Rattle.gfx_script.proofs.Improving.{improvement_taken_back, none_left, one_improved, one_refused}
use Rattle.gfx_script.proofs.draft.Draft.improve_all.Goals as goal

pub ids-preserved : goal.ids-preserved
ids-preserved c = (
  one_improved c.ids.self c.push.new.self c.args.ids.now c.ids.id-index _ c.ids-test.true c.in_default.ensures.exact c.ids.invariant.0,
  improvement_taken_back c.ids.self c.push.new.self _ c.in_default.ensures.exact ∙ c.ids.invariant.1,
)

pub returns-in-Err-clause-exact : goal.returns-in-Err-clause-exact
returns-in-Err-clause-exact c =
    one_refused (λ (x : Unit {0}). c.push.new.self) (λ (x : Unit {0}). c.take_steps_back.new.self) c.in-Err.flaw c.ids.self c.args.ids.now c.ids.id-index _ c.ids-test.true c.in-Err.ensures.exact c.ids.invariant.0

pub returns-clause-exact : goal.returns-clause-exact
returns-clause-exact c = none_left c.ids.self c.args.ids.now c.ids.id-index _ (omega (arith, c.ids-test.false)) c.ids.invariant.0
