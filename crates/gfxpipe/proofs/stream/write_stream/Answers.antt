use Rattle.std.proofs.lemmas.Result.{err_from_is_err_and}
use Rattle.gfxpipe.proofs.Planning.{not_planned}
use Rattle.gfxpipe.proofs.stream.write_stream.Goals as goal

pub returns-in_err-planner : goal.returns-in_err-planner
returns-in_err-planner g c =
    let p = err_from_is_err_and c.from_residual.result c.from_residual.ensures.1 in
    rw (p.1, p.2) (not_planned c.args.script.now _ _ _)
