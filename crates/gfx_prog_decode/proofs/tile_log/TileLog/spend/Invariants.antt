use Rattle.std.proofs.Common.{length}
use Rattle.gfx_prog_decode.proofs.tile_log.TileLog.spend.Given as goal

abbrev pub decreases-tiles : goal.decreases-tiles
decreases-tiles l = length l.self.tiles.items
