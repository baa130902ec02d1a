use Rattle.std.proofs.Common.{◌≡◌, length}
use Rattle.gfx_clear_bands.specs.Canvas.{on_canvas}
use Rattle.gfx_clear_bands.specs.Bands.{bands}
use Rattle.gfx_clear_bands.proofs.Drawings.{Due}
use Rattle.gfx_clear_bands.proofs.painting.paint_bands.Given as goal

abbrev pub invariant-bands : goal.invariant-bands
invariant-bands l = record {
  due : Due l.width l.height (on_canvas l.canvas l.store.held) l.rest (bands l.width l.height (on_canvas l.fn.canvas l.fn.store.held) l.fn.bytes);
  marked : l.store.marked ≡ l.fn.store.marked;
}

abbrev pub decreases-bands : goal.decreases-bands
decreases-bands l = length l.rest
