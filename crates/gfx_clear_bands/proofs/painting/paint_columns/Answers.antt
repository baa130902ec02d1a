use Rattle.std.proofs.Common.{◌+◌, sym, ◌∙◌, arith}
use Rattle.gfx_clear_bands.specs.Canvas.{on_canvas}
use Rattle.gfx_clear_bands.proofs.Drawings.{columns_step, columns_stop, columns_none}
use Rattle.gfx_clear_bands.proofs.painting.paint_columns.Goals as goal

pub returns-in-Err-clause-columns : goal.returns-in-Err-clause-columns
returns-in-Err-clause-columns c =
    sym c.columns.invariant.same
    ∙ columns_stop c.args.width c.args.band.now (c.args.band.now.right + 1) c.columns.x (on_canvas c.columns.canvas c.columns.store.held)
    (on_canvas c.paint_column.new.canvas c.paint_column.new.store.held) c.columns.rest.now c.in-Err.refusal c.columns-test.true
    c.in-Err.ensures.column.0 c.in-Err.ensures.column.1

pub columns-preserved : goal.columns-preserved
columns-preserved c =
    let column = c.in-Ok.ensures.column in
    record {
      same = columns_step c.args.width c.args.band.now (c.args.band.now.right + 1) c.columns.x (on_canvas c.columns.canvas c.columns.store.held)
          (on_canvas c.paint_column.new.canvas c.paint_column.new.store.held) c.columns.rest.now c.in-Ok.rest.now column.0 c.columns-test.true column.1 column.2
          ∙ c.columns.invariant.same;
      marked = c.in-Ok.ensures.marked ∙ c.columns.invariant.marked;
      shorter = omega (arith, c.in-Ok.ensures.shorter, c.columns.invariant.shorter);
    }

pub returns-clause-columns : goal.returns-clause-columns
returns-clause-columns c =
    sym c.columns.invariant.same
    ∙ columns_none c.args.width c.args.band.now (c.args.band.now.right + 1) c.columns.x (on_canvas c.columns.canvas c.columns.store.held) c.columns.rest.now c.columns-test.false
