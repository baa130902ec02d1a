use Rattle.std.proofs.Common.{◌≡◌, length, map, take}
use Rattle.std.specs.Vec.{vec_capacity}
use Rattle.gfx_base.specs.Colour.{opaque}
use Rattle.gfx_clear.proofs.pixels.pixels_of.Given as goal

abbrev pub invariant-colours : goal.invariant-colours
invariant-colours l = record { items : l.pixels.items ≡ map opaque (take l.colour-index l.colours); room : vec_capacity l.pixels ≡ length l.colours }
