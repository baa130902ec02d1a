use Rattle.std.proofs.Common.{Ok}
use Rattle.std.proofs.lemmas.Result.{err_from_is_err_and}
use Rattle.gfxpipe.proofs.Sessions.{begun_as}
use Rattle.gfxpipe.proofs.Trying.{found_is, is_good, not_played, not_told, told}
use Rattle.gfxpipe.proofs.trial.trial.Goals as goal

pub new-requires : goal.new-requires
new-requires g c =
    is_good c.args.number c.in-Ok.script
    (found_is c.args.number c.in_ok-text.text (Ok c.in-Ok.script) c.in_ok-text.ensures (rw (c.in-Ok.is, c.as_slice.ensures) at c.in_ok-script.ensures))

pub returns-in_err-session-in-Ok : goal.returns-in_err-session-in-Ok
returns-in_err-session-in-Ok g c =
    let found = found_is c.args.number c.in_ok-text.text (Ok c.in-Ok.script) c.in_ok-text.ensures (rw (c.in-Ok.is, c.as_slice.ensures) at c.in_ok-script.ensures) in
    let p = err_from_is_err_and c.from_residual-in_err-session-in-Ok.result c.from_residual-in_err-session-in-Ok.ensures.1 in
    rw (p.1, p.2) (not_played c.args.number _ _ c.in-Ok.script _ _ found)

pub write_last-requires : goal.write_last-requires
write_last-requires g c = (c.in_ok-session-in-Ok.ensures.digests c.in_ok-begun-in-Ok.ensures.is.2).acks

pub returns-in-Ok-write_last : goal.returns-in-Ok-write_last
returns-in-Ok-write_last g c =
    let found = found_is c.args.number c.in_ok-text.text (Ok c.in-Ok.script) c.in_ok-text.ensures (rw (c.in-Ok.is, c.as_slice.ensures) at c.in_ok-script.ensures) in
    let begun = begun_as c.in-Ok.script c.in_ok-begun-in-Ok.begun (is_good c.args.number c.in-Ok.script found) c.in_ok-begun-in-Ok.ensures.is.1 c.in_ok-begun-in-Ok.ensures.stands in
    told c.args.number _ _ c.in-Ok.script c.in_ok-begun-in-Ok.begun c.in_ok-session-in-Ok.session _ c.in_ok-begun-in-Ok.ensures.is.2 found c.in_ok-begun-in-Ok.ensures.is.1 begun c.in_ok-session-in-Ok.ensures
    c.in-Ok-write_last.ensures

pub returns-in-Ok : goal.returns-in-Ok
returns-in-Ok g c =
    let found = found_is c.args.number c.in_ok-text.text (Ok c.in-Ok.script) c.in_ok-text.ensures (rw (c.in-Ok.is, c.as_slice.ensures) at c.in_ok-script.ensures) in
    let begun = begun_as c.in-Ok.script c.in_ok-begun-in-Ok.begun (is_good c.args.number c.in-Ok.script found) c.in_ok-begun-in-Ok.ensures.is.1 c.in_ok-begun-in-Ok.ensures.stands in
    not_told c.args.number _ _ c.in-Ok.script c.in_ok-begun-in-Ok.begun c.in_ok-session-in-Ok.session _ c.in_ok-begun-in-Ok.ensures.is.2 found c.in_ok-begun-in-Ok.ensures.is.1 begun c.in_ok-session-in-Ok.ensures
    c.in-Err-write_last.ensures
