use Rattle.std.proofs.lemmas.Result.{err_from_is_err_and}
use Rattle.gfxpipe.proofs.Importing.{import_broken, import_is, import_refused, import_told, no_import}
use Rattle.gfxpipe.proofs.import.import.Goals as goal

pub returns-in_err-begun : goal.returns-in_err-begun
returns-in_err-begun g c =
    let p = err_from_is_err_and c.from_residual.result c.from_residual.ensures.1 in
    rw (p.1, p.2) (no_import c.in_err-begun.field-0.0 _ c.args.limit _ _ _ c.in_err-begun.ensures)

pub play_out-requires-clause-is : goal.play_out-requires-clause-is
play_out-requires-clause-is g c = (import_is c.in-Ok.begun c.args.limit _ (rw c.in-Ok.is at c.in_ok-begun.ensures)).0

pub play_out-requires-clause-unqueued : goal.play_out-requires-clause-unqueued
play_out-requires-clause-unqueued g c = (import_is c.in-Ok.begun c.args.limit _ (rw c.in-Ok.is at c.in_ok-begun.ensures)).1

pub play_out-requires-clause-digests : goal.play_out-requires-clause-digests
play_out-requires-clause-digests g c = (import_is c.in-Ok.begun c.args.limit _ (rw c.in-Ok.is at c.in_ok-begun.ensures)).2

pub returns-in_err-session-in-Ok : goal.returns-in_err-session-in-Ok
returns-in_err-session-in-Ok g c =
    let p = err_from_is_err_and c.from_residual-in_err-session-in-Ok.result c.from_residual-in_err-session-in-Ok.ensures.1 in
    rw (p.1, p.2) (import_broken c.in_err-session-in-Ok.field-0.0 _ _ c.args.limit _ _ c.in-Ok.begun (rw c.in-Ok.is at c.in_ok-begun.ensures) c.in_err-session-in-Ok.ensures)

pub returns-in_ok-session-in-Ok : goal.returns-in_ok-session-in-Ok
returns-in_ok-session-in-Ok g c = import_told _ _ c.args.limit _ _ c.in-Ok.begun c.in_ok-session-in-Ok.session (rw c.in-Ok.is at c.in_ok-begun.ensures) c.in_ok-session-in-Ok.ensures

pub returns-in-Err : goal.returns-in-Err
returns-in-Err g c = import_refused c.in-Err.ending _ c.args.limit _ _ _ (rw c.in-Err.is at c.in_ok-begun.ensures)
