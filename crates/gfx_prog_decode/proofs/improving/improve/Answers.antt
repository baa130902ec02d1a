use Rattle.std.proofs.lemmas.Result.{err_from_is_err_and}
use Rattle.gfx_prog_decode.specs.Scene.{scene}
use Rattle.gfx_prog_decode.specs.Undo.{kept}
use Rattle.gfx_prog_decode.proofs.Steps.{where_err}
use Rattle.gfx_prog_decode.proofs.Undoing.{keeps_from, stays_from, stays_same}
use Rattle.gfx_prog_decode.proofs.improving.improve.Goals as goal

pub returns-in_err-improve_found-clause-starts : goal.returns-in_err-improve_found-clause-starts
returns-in_err-improve_found-clause-starts c =
    let p = err_from_is_err_and c.from_residual-in_err-improve_found.result c.from_residual-in_err-improve_found.ensures.1 in
    rw (p.1, p.2) (rw c.get.ensures at c.in_err-improve_found.ensures)

pub returns-clause-starts : goal.returns-clause-starts
returns-clause-starts c = (c.improve_found.new.tile, rw c.get.ensures at c.in_ok-improve_found.ensures, c.in_ok-exchange.ensures.exchanged)

pub returns-clause-keeps : goal.returns-clause-keeps
returns-clause-keeps c =
    keeps_from c.args.key (scene c.args.records.now c.args.surface.now) (kept c.args.bench.now.log) (kept c.tile.new.self) (kept c.exchange.new.log) c.tile.ensures c.in_ok-exchange.ensures.keeps

pub returns-in_err-tile-clause-undo : goal.returns-in_err-tile-clause-undo
returns-in_err-tile-clause-undo c =
    where_err c.from_residual.result _ (stays_same (kept c.args.bench.now.log) (kept c.tile.new.self) (scene c.args.records.now c.args.surface.now) c.tile.ensures)

pub returns-in_err-improve_found-clause-undo : goal.returns-in_err-improve_found-clause-undo
returns-in_err-improve_found-clause-undo c =
    where_err c.from_residual-in_err-improve_found.result _ (stays_same (kept c.args.bench.now.log) (kept c.tile.new.self) (scene c.args.records.now c.args.surface.now) c.tile.ensures)

pub returns-in_err-exchange-clause-undo : goal.returns-in_err-exchange-clause-undo
returns-in_err-exchange-clause-undo c =
    where_err c.from_residual-in_err-exchange.result _
    (stays_from (kept c.args.bench.now.log) (kept c.tile.new.self) (kept c.exchange.new.log) (scene c.args.records.now c.args.surface.now) (scene c.exchange.new.records c.args.surface.now)
    c.tile.ensures c.in_err-exchange.ensures.undo)
