use Rattle.std.proofs.Common.{◌+◌, ◌*◌, drop}
use Rattle.gfx_chooser.specs.Facts.{colours_in}
use Rattle.gfx_estimate.specs.Inner.{IsFew}
use Rattle.gfx_estimate.proofs.Counted.{Counted}
use Rattle.gfx_estimate.proofs.runs.count_runs.Given as goal

abbrev pub invariant-rows : goal.invariant-rows
invariant-rows l = record {
  few : IsFew (65536 * l.y) l.runs;
  counted : Counted (colours_in l.picture) l.runs (drop (l.y * l.picture.width) (colours_in l.picture));
}

abbrev pub invariant-pixels : goal.invariant-pixels
invariant-pixels l = record {
  few : IsFew (65536 * l.y + l.x) l.runs;
  counted : Counted (colours_in l.picture) l.runs (drop (l.y * l.picture.width + l.x) (colours_in l.picture));
}
