use Rattle.std.proofs.Common.{◌≡◌, map, take}
use Rattle.gfx_prog_encode.specs.Messages.{area_of}
use Rattle.gfx_prog_encode.proofs.region.areas_of.Given as goal

abbrev pub invariant-sends : goal.invariant-sends
invariant-sends l = l.areas ≡ map area_of (take l.send-index l.sends)
