use Rattle.std.proofs.Common.{sym, ◌∙◌, arith}
use Rattle.gfx_clear_bands.proofs.Drawings.{draw_step, draw_end}
use Rattle.gfx_clear_bands.proofs.reading.draw_down.Goals as goal

pub pixels-preserved : goal.pixels-preserved
pixels-preserved c = record {
  at = omega (arith, c.pixels.invariant.at);
  same = λ held. draw_step c.args.width c.pixels.at c.pixels.pixel-index c.args.pixels.now c.pixels.out c.pixels.drawn held _ c.pixels-test.true ∙ c.pixels.invariant.same held;
}

pub returns : goal.returns
returns c = λ held. sym (draw_end c.args.width c.pixels.at c.pixels.pixel-index c.args.pixels.now _ c.pixels-test.false) ∙ c.pixels.invariant.same held
