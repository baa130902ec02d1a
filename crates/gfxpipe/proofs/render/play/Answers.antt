use Rattle.std.proofs.lemmas.Result.{err_from_is_err_and}
use Rattle.gfxpipe.proofs.Commands.{not_played, printed, not_printed}
use Rattle.gfxpipe.proofs.render.play.Goals as goal

pub returns-in_err-read : goal.returns-in_err-read
returns-in_err-read g c =
    let p = err_from_is_err_and c.from_residual.result c.from_residual.ensures.1 in
    rw (p.1, p.2) (not_played c.in_err-read.field-0.0 c.args.dump c.args.limit _ _ _ c.read_input.new.taker c.in_err-read.ensures)

pub returns-in_err-print : goal.returns-in_err-print
returns-in_err-print g c =
    let p = err_from_is_err_and c.from_residual-in_err-print.result c.from_residual-in_err-print.ensures.1 in
    rw (p.1, p.2) (not_printed c.in_err-print.field-0.0 c.args.dump c.in_ok-read.read c.args.limit _ _ c.read_input.new.taker _ c.in_ok-read.ensures c.surfaces.ensures c.in_err-print.ensures)

pub returns : goal.returns
returns g c =
    rw c.ending_of-ending.ensures (printed c.args.dump c.in_ok-read.read c.args.limit _ _ c.read_input.new.taker _ c.in_ok-read.ensures c.surfaces.ensures c.in_ok-print.ensures)
