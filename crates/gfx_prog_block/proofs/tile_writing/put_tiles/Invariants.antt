use Rattle.std.proofs.Common.{◌≡◌, ◌++◌, take}
use Rattle.std.specs.List.{flat_map}
use Rattle.gfx_prog_block.specs.Spelling.{tile_text}
use Rattle.gfx_prog_block.proofs.tile_writing.put_tiles.Given as goal

abbrev pub invariant-tiles : goal.invariant-tiles
invariant-tiles l = l.out ≡ l.initial.out ++ flat_map tile_text (take l.tile-index l.tiles)
