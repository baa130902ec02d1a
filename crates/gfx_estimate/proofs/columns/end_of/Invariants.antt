use Rattle.std.proofs.Common.{◌≡◌, ◌≤◌, length, take}
use Rattle.gfx_clear_bands.specs.Writing.{without_end}
use Rattle.gfx_estimate.proofs.columns.end_of.Given as goal

abbrev pub invariant-end : goal.invariant-end
invariant-end l = record {
  within : l.end ≤ length l.pixels;
  same : without_end l.background (take l.end l.pixels) ≡ without_end l.background l.pixels;
}

abbrev pub decreases-end : goal.decreases-end
decreases-end l = l.end
