use Rattle.std.proofs.Common.{◌≡◌, length, map, take}
use Rattle.std.specs.Vec.{vec_capacity}
use Rattle.gfx_base.specs.Colour.{colour_of}
use Rattle.gfx_clear.proofs.pixels.colours_of.Given as goal

abbrev pub invariant-pixels : goal.invariant-pixels
invariant-pixels l = record { items : l.colours.items ≡ map colour_of (take l.pixel-index l.pixels); room : vec_capacity l.colours ≡ length l.pixels }
