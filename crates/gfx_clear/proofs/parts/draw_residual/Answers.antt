use Rattle.std.proofs.Common.{length, ap, ◌∙◌}
use Rattle.gfx_clear_runs.specs.Reading.{pixels_of, runs_of}
use Rattle.gfx_clear_bands.specs.Canvas.{on_canvas}
use Rattle.gfx_clear_bands.proofs.Drawings.{some_left}
use Rattle.gfx_clear.proofs.Layers.{residual_drawn}
use Rattle.gfx_clear.proofs.Canvases.{all_on_canvas}
use Rattle.gfx_clear.proofs.parts.draw_residual.Goals as goal

pub returns-in-Ok : goal.returns-in-Ok
returns-in-Ok c = λ held.
    let pixels = pixels_of (runs_of c.args.bytes.now).elements in
    residual_drawn (length c.args.canvas.now) (on_canvas c.args.canvas.now held) (on_canvas c.paint_runs.new.out held) c.args.bytes.now pixels
    (some_left (length c.args.bytes.now) c.is_empty.result c.is_empty.ensures c.if-is_empty.false) c.in-Ok.ensures.0
    (ap (λ z. on_canvas z held) c.in-Ok.ensures.1 ∙ all_on_canvas pixels held)
