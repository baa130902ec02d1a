use Rattle.std.proofs.Common.{◌≡◌, length, take}
use Rattle.std.specs.List.{fold}
use Rattle.gfx_base.specs.Colour.{mixed}
use Rattle.gfx_base.proofs.colour.hash_of.Given as goal

abbrev pub invariant-loop-pixel : goal.invariant-loop-pixel
invariant-loop-pixel l = l.hash ≡ fold mixed (length l.pixels) (take l.pixel-index l.pixels)
