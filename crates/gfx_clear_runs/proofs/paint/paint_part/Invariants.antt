use Rattle.std.proofs.Common.{◌≤◌, ◌-◌, length, take}
use Rattle.gfx_clear_runs.specs.Reading.{part_of}
use Rattle.gfx_clear_runs.specs.Views.{reading}
use Rattle.gfx_clear_runs.proofs.Painting.{Paving}
use Rattle.gfx_clear_runs.proofs.paint.paint_part.Given as goal

abbrev pub invariant-elements : goal.invariant-elements
invariant-elements l = record {
  within : l.at ≤ length l.out;
  on : Paving (length l.fn.out) (part_of (reading l.coding) l.bytes) (length l.out - l.at) (part_of (reading l.coding) l.rest) (take l.at l.out);
}

abbrev pub decreases-elements : goal.decreases-elements
decreases-elements l = length l.rest
