use Rattle.std.proofs.Common.{◌≡◌, ◌+◌, ◌-◌, ◌*◌, length}
use Rattle.gfx_clear_store.specs.Rings.{Rings}
use Rattle.gfx_clear_bands.specs.Canvas.{on_canvas}
use Rattle.gfx_clear.specs.Subcodecs.{area_drawn, rows_drawn}
use Rattle.gfx_clear.proofs.subcodecs.draw_area.Given as goal

-- the first rows are drawn
abbrev pub invariant-rows : goal.invariant-rows
invariant-rows l = record {
  at : l.at ≡ (l.area.y + l.counter) * l.fn.across + l.area.x;
  long : length l.rest ≡ l.width * (l.area.height - l.counter);
  same : (held : Rings) → rows_drawn l.fn.across l.area.width l.at (l.area.height - l.counter) l.rest (on_canvas l.canvas held)
      ≡ area_drawn l.fn.across l.area l.fn.pixels (on_canvas l.fn.canvas held);
}
