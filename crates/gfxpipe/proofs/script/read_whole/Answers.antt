use Rattle.std.proofs.lemmas.Result.{err_from_is_err_and}
use Rattle.gfxpipe.proofs.ReadingScripts.{not_read, too_long, reads_text}
use Rattle.gfxpipe.proofs.script.read_whole.Goals as goal

pub returns-in_err-read_input : goal.returns-in_err-read_input
returns-in_err-read_input g c =
    let p = err_from_is_err_and c.from_residual.result c.from_residual.ensures.1 in
    rw (p.1, p.2) (not_read c.in_err-read_input.field-0.0 c.args.limit _ c.read_input.new.taker c.in_err-read_input.ensures)

pub returns-in-TooLong : goal.returns-in-TooLong
returns-in-TooLong g c = too_long c.args.limit _ c.read_input.new.taker (rw c.in-TooLong.is at c.in_ok-read_input.ensures)

pub returns : goal.returns
returns g c =
    reads_text c.read_text.result c.args.limit _ c.read_input.new.taker (rw c.in-Whole.is at c.in_ok-read_input.ensures) (rw c.as_slice.ensures at c.read_text.ensures)
