use Rattle.gfx_srl.proofs.WritingSteps.{run-rest}
use Rattle.gfx_srl.proofs.writer.push_rest.Goals as goal

pub returns-in_ok-push : goal.returns-in_ok-push
returns-in_ok-push c = run-rest c.args.bits.now c.push.new.self c.args.zeros c.if-zeros-gt0.true c.in_ok-push.ensures.ok
