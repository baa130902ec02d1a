use Rattle.std.proofs.Common.{◌≡◌, ◌+◌, ◌*◌, drop}
use Rattle.gfx_clear_store.specs.Rings.{Rings}
use Rattle.gfx_clear_bands.specs.Bands.{drawing, drawn_down}
use Rattle.gfx_clear_bands.proofs.reading.draw_down.Given as goal

abbrev pub invariant-pixels : goal.invariant-pixels
invariant-pixels l = record {
  at : l.at ≡ l.fn.at + l.width * l.pixel-index;
  same : (held : Rings) → drawn_down l.width l.at (drop l.pixel-index l.pixels) (drawing l.out l.drawn held) ≡ drawn_down l.width l.fn.at l.pixels (drawing l.fn.out l.fn.drawn held);
}
