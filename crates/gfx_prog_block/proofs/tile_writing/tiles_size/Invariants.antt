use Rattle.std.proofs.Common.{◌≡◌, take}
use Rattle.std.specs.List.{sum_by}
use Rattle.gfx_prog_block.specs.Spelling.{tile_size}
use Rattle.gfx_prog_block.proofs.tile_writing.tiles_size.Given as goal

abbrev pub invariant-tiles : goal.invariant-tiles
invariant-tiles l = l.size ≡ sum_by tile_size (take l.tile-index l.tiles)
