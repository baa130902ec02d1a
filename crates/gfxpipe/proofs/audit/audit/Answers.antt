use Rattle.std.proofs.lemmas.Result.{err_from_is_err_and}
use Rattle.gfxpipe.proofs.Commands.{no_auditor}
use Rattle.gfxpipe.proofs.audit.audit.Goals as goal

pub returns-in_err-client : goal.returns-in_err-client
returns-in_err-client g c =
    let p = err_from_is_err_and c.from_residual.result c.from_residual.ensures.1 in
    rw (p.1, p.2) (no_auditor c.args.limit _ _ _ _)
