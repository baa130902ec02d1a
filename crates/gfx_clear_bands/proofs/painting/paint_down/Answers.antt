use Rattle.std.proofs.Common.{sym, ◌∙◌, arith}
use Rattle.gfx_clear_bands.proofs.Drawings.{draw_end}
use Rattle.gfx_clear_bands.proofs.Canvases.{canvas_step}
use Rattle.gfx_clear_bands.proofs.painting.paint_down.Goals as goal

pub colours-preserved : goal.colours-preserved
colours-preserved c = record {
  at = omega (arith, c.colours.invariant.at);
  same = λ held. canvas_step c.args.width c.colours.at c.colours.colour-index c.args.colours.now c.colours.canvas c.opaque.result held _ c.colours-test.true c.opaque.ensures ∙ c.colours.invariant.same held;
}

pub returns : goal.returns
returns c = λ held. sym (draw_end c.args.width c.colours.at c.colours.colour-index c.args.colours.now _ c.colours-test.false) ∙ c.colours.invariant.same held
