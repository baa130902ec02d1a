use Rattle.std.proofs.Common.{◌∙◌}
use Rattle.gfx_clear_bands.specs.Canvas.{on_canvas}
use Rattle.gfx_clear_bands.proofs.Drawings.{due_step, due_stop, due_end, none_left, some_left}
use Rattle.gfx_clear_bands.proofs.painting.paint_bands.Goals as goal

pub returns-in-Err-clause-bands : goal.returns-in-Err-clause-bands
returns-in-Err-clause-bands c =
    due_stop c.args.width c.args.height (on_canvas c.bands.canvas c.bands.store.held) (on_canvas c.paint_band.new.canvas c.paint_band.new.store.held)
    c.bands.rest.now c.in-Err.refusal _ (some_left _ _ c.is_empty.ensures c.bands-test.true) c.in-Err.ensures.band c.bands.invariant.due

pub bands-preserved : goal.bands-preserved
bands-preserved c = record {
  due = due_step c.args.width c.args.height (on_canvas c.bands.canvas c.bands.store.held) (on_canvas c.paint_band.new.canvas c.paint_band.new.store.held)
      c.bands.rest.now c.in-Ok.rest.now _ (some_left _ _ c.is_empty.ensures c.bands-test.true) c.in-Ok.ensures.shorter c.in-Ok.ensures.band c.bands.invariant.due;
  marked = c.in-Ok.ensures.marked ∙ c.bands.invariant.marked;
}

pub returns-clause-bands : goal.returns-clause-bands
returns-clause-bands c = due_end c.args.width c.args.height (on_canvas c.bands.canvas c.bands.store.held) c.bands.rest.now _ (none_left _ _ c.is_empty.ensures c.bands-test.false) c.bands.invariant.due
