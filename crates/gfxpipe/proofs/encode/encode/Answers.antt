use Rattle.std.proofs.lemmas.Result.{err_from_is_err_and}
use Rattle.gfxpipe.proofs.Encoding.{not_read, no_script, not_streamed, streamed}
use Rattle.gfxpipe.proofs.ReadingScripts.{is_good}
use Rattle.gfxpipe.proofs.encode.encode.Goals as goal

pub returns-in_err-script : goal.returns-in_err-script
returns-in_err-script g c =
    let p = err_from_is_err_and c.from_residual.result c.from_residual.ensures.1 in
    rw (p.1, p.2) (not_read c.in_err-script.field-0.0 _ c.args.limit _ _ _ c.in_err-script.ensures)

pub write_stream-requires : goal.write_stream-requires
write_stream-requires g c = is_good c.args.limit _ c.in-Ok.script (rw c.in-Ok.is at c.in_ok-script.ensures)

pub returns-in_err-write_stream-in-Ok : goal.returns-in_err-write_stream-in-Ok
returns-in_err-write_stream-in-Ok g c =
    let p = err_from_is_err_and c.from_residual-in_err-write_stream-in-Ok.result c.from_residual-in_err-write_stream-in-Ok.ensures.1 in
    rw (p.1, p.2) (not_streamed c.in_err-write_stream-in-Ok.field-0.0 _ _ c.args.limit _ _ c.in-Ok.script (rw c.in-Ok.is at c.in_ok-script.ensures) c.in_err-write_stream-in-Ok.ensures)

pub returns-in_ok-write_stream-in-Ok : goal.returns-in_ok-write_stream-in-Ok
returns-in_ok-write_stream-in-Ok g c =
    streamed _ _ c.args.limit _ _ c.in-Ok.script (rw c.in-Ok.is at c.in_ok-script.ensures) c.in_ok-write_stream-in-Ok.ensures

pub returns-in-Err : goal.returns-in-Err
returns-in-Err g c = no_script c.in-Err.ending _ c.args.limit _ _ _ (rw c.in-Err.is at c.in_ok-script.ensures)
