use Rattle.std.proofs.Common.{◌≡◌, ◌≤◌, ◌*◌, length, take}
use Rattle.std.specs.List.{flat_map}
use Rattle.gfx_rfx_video.specs.Message.{tile_text}
use Rattle.gfx_rfx_video.proofs.message.tile_texts.Given as goal

abbrev pub invariant-tiles : goal.invariant-tiles
invariant-tiles l = (l.out ≡ flat_map (tile_text l.mode) (take l.tile-index l.tiles)) × (length l.out ≤ l.tile-index * 196624)
