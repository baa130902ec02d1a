use Rattle.std.proofs.Common.{◌≡◌, ◌-◌, ◌+◌, ◌≤◌, length}
use Rattle.gfx_clear_bands.specs.Canvas.{on_canvas}
use Rattle.gfx_clear_bands.specs.Bands.{columns}
use Rattle.gfx_clear_bands.proofs.painting.paint_columns.Given as goal

abbrev pub invariant-columns : goal.invariant-columns
invariant-columns l = record {
  same : columns l.width l.band (l.end - l.x) l.x (on_canvas l.canvas l.store.held) l.rest
      ≡ columns l.width l.band (l.band.right + 1 - l.band.left) l.band.left (on_canvas l.fn.canvas l.fn.store.held) l.bytes;
  marked : l.store.marked ≡ l.fn.store.marked;
  shorter : length l.rest ≤ length l.bytes;
}
