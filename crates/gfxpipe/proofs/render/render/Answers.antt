use Rattle.std.proofs.lemmas.Result.{err_from_is_err_and}
use Rattle.gfxpipe.proofs.Commands.{no_client}
use Rattle.gfxpipe.proofs.render.render.Goals as goal

pub returns-in_err-client : goal.returns-in_err-client
returns-in_err-client g c =
    let p = err_from_is_err_and c.from_residual.result c.from_residual.ensures.1 in
    rw (p.1, p.2) (no_client c.args.dump c.args.limit _ _ _ _)
