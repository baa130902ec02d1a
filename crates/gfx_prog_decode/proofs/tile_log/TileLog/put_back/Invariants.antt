use Rattle.std.proofs.Common.{◌≡◌, length}
use Rattle.gfx_prog_decode.specs.Undo.{CanBack, records_undone}
use Rattle.gfx_prog_decode.proofs.tile_log.TileLog.put_back.Given as goal

-- what is left of the log puts back what all of it does
abbrev pub invariant-tiles : goal.invariant-tiles
invariant-tiles l = record {
  same : records_undone l.self.tiles.items l.records ≡ records_undone l.initial.self.tiles.items l.initial.records;
  can : CanBack l.self.tiles.items l.records;
}

abbrev pub decreases-tiles : goal.decreases-tiles
decreases-tiles l = length l.self.tiles.items
