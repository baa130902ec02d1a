use Rattle.std.proofs.Common.{◌≤◌, length}
use Rattle.gfx_window.specs.Index.{AreLeftOut, Stands}
use Rattle.gfx_window.proofs.leaving.left_out.Given as goal

abbrev pub invariant-places : goal.invariant-places
invariant-places l = record {
  few : l.place ≤ length l.items;
  stands : Stands l.script l.items l.index.lists.items l.place l.limit;
  left : AreLeftOut l.script l.items l.left.items l.place;
}

abbrev pub decreases-places : goal.decreases-places
decreases-places l = l.place
