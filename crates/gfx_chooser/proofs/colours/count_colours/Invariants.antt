use Rattle.std.proofs.Common.{◌≡◌, ◌+◌, ◌*◌, ◌<◌, length, true}
use Rattle.std.specs.Prelude.{IfSome}
use Rattle.gfx_base.specs.Colour.{has_colour}
use Rattle.gfx_chooser.specs.declared.facts.TheConstants.{MOST_COLOURS}
use Rattle.gfx_chooser.proofs.Counting.{Finds}
use Rattle.gfx_chooser.proofs.colours.count_colours.Given as goal

abbrev pub invariant-rows : goal.invariant-rows
invariant-rows l = record {
  few : length l.colours.items < MOST_COLOURS;
  finds : Finds l.picture l.colours.items (l.y * l.picture.width);
  held : IfSome l.last (λ colour. has_colour l.colours.items colour ≡ true);
}

abbrev pub invariant-pixels : goal.invariant-pixels
invariant-pixels l = record {
  few : length l.colours.items < MOST_COLOURS;
  finds : Finds l.picture l.colours.items (l.y * l.picture.width + l.x);
  held : IfSome l.last (λ colour. has_colour l.colours.items colour ≡ true);
}
