use Rattle.std.proofs.lemmas.Result.{err_from_is_err_and}
use Rattle.gfx_prog_decode.proofs.Tiles.{cb_refused, cr_ended, y_refused}
use Rattle.gfx_prog_decode.proofs.passing.start_tile.Goals as goal

pub returns-in_err-start_part : goal.returns-in_err-start_part
returns-in_err-start_part c =
    let p = err_from_is_err_and c.from_residual.result c.from_residual.ensures.1 in
    let y = rw c.as_slice-y.ensures at c.in_err-start_part.ensures.part in
    rw (p.1, p.2) (y_refused c.args.shape.now c.args.difference c.args.pass.now c.args.tile.now c.start_part.new.tile c.in_err-start_part.field-0.0 y)

pub returns-in_err-start_part-2 : goal.returns-in_err-start_part-2
returns-in_err-start_part-2 c =
    let p = err_from_is_err_and c.from_residual-in_err-start_part-2.result c.from_residual-in_err-start_part-2.ensures.1 in
    let y = rw c.as_slice-y.ensures at c.in_ok-start_part.ensures.part in
    let cb = rw c.as_slice-cb.ensures at c.in_err-start_part-2.ensures.part in
    rw (p.1, p.2) (cb_refused c.args.shape.now c.args.difference c.args.pass.now c.args.tile.now c.start_part.new.tile c.start_part-2.new.tile c.in_err-start_part-2.field-0.0 y cb)

pub returns : goal.returns
returns c =
    let y = rw c.as_slice-y.ensures at c.in_ok-start_part.ensures.part in
    let cb = rw c.as_slice-cb.ensures at c.in_ok-start_part-2.ensures.part in
    let cr = rw c.as_slice-cr.ensures at c.start_part-3.ensures.part in
    cr_ended c.args.shape.now c.args.difference c.args.pass.now c.start_part-3.result c.args.tile.now c.start_part.new.tile c.start_part-2.new.tile c.start_part-3.new.tile y cb cr c.start_part-3.ensures.ok
