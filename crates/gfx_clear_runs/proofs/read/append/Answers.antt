-- Copies that were not all appended are the first pixels of the stretch.
use Rattle.gfx_clear_runs.proofs.Appending.{on_err, begun_front}
use Rattle.gfx_clear_runs.proofs.read.append.Goals as goal

pub returns-in_err-append_copies-clause-err : goal.returns-in_err-append_copies-clause-err
returns-in_err-append_copies-clause-err c =
    on_err c.from_residual.result _
    (begun_front _ c.args.stretch.now.more.now c.args.out.now c.append_copies.new.out c.in_err-append_copies.ensures.err)
