use Rattle.std.proofs.Common.{length}
use Rattle.gfx_clear_bands.specs.Canvas.{on_canvas}
use Rattle.gfx_clear_bands.proofs.Drawings.{some_left, none_left}
use Rattle.gfx_clear.proofs.Areas.{due_step, due_fault, due_end}
use Rattle.gfx_clear.proofs.subcodecs.draw_subcodecs.Goals as goal

pub returns-in-Err : goal.returns-in-Err
returns-in-Err c = λ held.
    due_fault c.in-Err.fault c.args.width c.args.height (on_canvas c.subcodecs.canvas held) c.subcodecs.rest.now _
    (some_left (length c.subcodecs.rest.now) c.is_empty.result c.is_empty.ensures c.subcodecs-test.true) (c.in-Err.ensures.subcodec held) (c.subcodecs.invariant held)

pub subcodecs-preserved : goal.subcodecs-preserved
subcodecs-preserved c = λ held.
    due_step c.args.width c.args.height (on_canvas c.subcodecs.canvas held) (on_canvas c.draw_subcodec.new.canvas held) c.subcodecs.rest.now c.in-Ok.rest.now _
    (some_left (length c.subcodecs.rest.now) c.is_empty.result c.is_empty.ensures c.subcodecs-test.true) c.in-Ok.ensures.shorter (c.in-Ok.ensures.subcodec held) (c.subcodecs.invariant held)

pub returns : goal.returns
returns c = λ held.
    due_end c.args.width c.args.height (on_canvas c.subcodecs.canvas held) c.subcodecs.rest.now _
    (none_left (length c.subcodecs.rest.now) c.is_empty.result c.is_empty.ensures c.subcodecs-test.false) (c.subcodecs.invariant held)
