use Rattle.std.proofs.Common.{◌≡◌, ◌+◌, ◌*◌, drop}
use Rattle.gfx_clear_store.specs.Rings.{Rings}
use Rattle.gfx_clear_bands.specs.Bands.{drawn_down}
use Rattle.gfx_clear_bands.specs.Canvas.{on_canvas}
use Rattle.gfx_clear_bands.proofs.painting.paint_down.Given as goal

abbrev pub invariant-colours : goal.invariant-colours
invariant-colours l = record {
  at : l.at ≡ l.fn.at + l.width * l.colour-index;
  same : (held : Rings) → drawn_down l.width l.at (drop l.colour-index l.colours) (on_canvas l.canvas held) ≡ drawn_down l.width l.fn.at l.colours (on_canvas l.fn.canvas held);
}
