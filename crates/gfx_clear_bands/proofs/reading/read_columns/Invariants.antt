use Rattle.std.proofs.Common.{◌≡◌, ◌-◌, ◌+◌, ◌≤◌, length}
use Rattle.gfx_clear_bands.specs.Bands.{drawing, columns}
use Rattle.gfx_clear_bands.proofs.reading.read_columns.Given as goal

abbrev pub invariant-columns : goal.invariant-columns
invariant-columns l = record {
  same : columns l.width l.band (l.end - l.x) l.x (drawing l.out l.drawn l.store.held) l.rest
      ≡ columns l.width l.band (l.band.right + 1 - l.band.left) l.band.left (drawing l.fn.out l.fn.drawn l.fn.store.held) l.bytes;
  marked : l.store.marked ≡ l.fn.store.marked;
  shorter : length l.rest ≤ length l.bytes;
}
