use Rattle.std.proofs.Common.{◌≡◌, ◌+◌, ◌*◌, ◌<◌, map, take}
use Rattle.std.specs.Prelude.{IfSome}
use Rattle.std.specs.List.{slice_get}
use Rattle.gfx_base.specs.Colour.{colour_of}
use Rattle.gfx_planner.specs.Pixels.{pixels_in}
use Rattle.gfx_planner.proofs.paint.colours.Given as goal

abbrev pub invariant-pixels : goal.invariant-pixels
invariant-pixels l = record {
  colours : IfSome (slice_get l.script.pictures l.picture) (λ one. l.colours.items ≡ map colour_of (take l.counter (pixels_in one)));
  place : l.y * l.width + l.x ≡ l.counter;
  inside : l.counter < l.width * l.height → l.x < l.width;
}
