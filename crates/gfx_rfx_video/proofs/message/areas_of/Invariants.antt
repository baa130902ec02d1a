use Rattle.std.proofs.Common.{◌≡◌, map, take}
use Rattle.gfx_rfx_video.specs.Message.{area_of}
use Rattle.gfx_rfx_video.proofs.message.areas_of.Given as goal

abbrev pub invariant-tiles : goal.invariant-tiles
invariant-tiles l = l.areas ≡ map (area_of l.width l.height) (take l.tile-index l.tiles)
