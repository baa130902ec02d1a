use Rattle.std.proofs.Common.{◌≡◌, length}
use Rattle.gfx_base.specs.Colour.{colours_of, with_colours}
use Rattle.gfx_clear_runs.proofs.collect.colours_of.Given as goal

abbrev pub invariant-runs : goal.invariant-runs
invariant-runs l = with_colours l.colours.items l.rest ≡ colours_of l.pixels

abbrev pub decreases-runs : goal.decreases-runs
decreases-runs l = length l.rest
