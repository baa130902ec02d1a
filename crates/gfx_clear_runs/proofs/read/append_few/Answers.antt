-- What was pushed before memory ran out.
use Rattle.std.proofs.Common.{arith, ◌∙◌}
use Rattle.gfx_clear_runs.proofs.Appending.{on_err, copies_begun}
use Rattle.gfx_clear_runs.proofs.read.append_few.Goals as goal

pub returns-in_err-push-clause-err : goal.returns-in_err-push-clause-err
returns-in_err-push-clause-err c =
    on_err c.from_residual.result _
    (copies_begun c.args.count c.copies.counter c.args.colour c.args.out.now c.push.new.self (omega arith) (c.in_err-push.ensures.err ∙ c.copies.invariant))
