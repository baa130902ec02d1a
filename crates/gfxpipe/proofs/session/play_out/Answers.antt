use Rattle.std.proofs.lemmas.Result.{err_from_is_err_and}
use Rattle.gfx_base.proofs.Streams.{Gains_none}
use Rattle.gfxpipe.proofs.Sessions.{lines_written, lines_broken}
use Rattle.gfxpipe.proofs.session.play_out.Goals as goal

pub returns-in_err-session : goal.returns-in_err-session
returns-in_err-session g c =
    let p = err_from_is_err_and c.from_residual.result c.from_residual.ensures.1 in
    rw (p.1, p.2) (Gains_none _ _)

pub write_acks-requires : goal.write_acks-requires
write_acks-requires g c = rw (c.as_slice.ensures, c.acks.ensures) (c.in_ok-session.ensures.digests c.requires.digests).acks

pub returns-in-Ok : goal.returns-in-Ok
returns-in-Ok g c = lines_written c.args.begun c.in_ok-session.session _ _ _ c.requires.digests c.in_ok-session.ensures (rw (c.as_slice.ensures, c.acks.ensures) at c.in-Ok.ensures)

pub returns-in-Err : goal.returns-in-Err
returns-in-Err g c = lines_broken c.args.begun c.in_ok-session.session _ _ _ c.requires.digests c.in_ok-session.ensures (rw (c.as_slice.ensures, c.acks.ensures) at c.in-Err.ensures)
