use Rattle.std.proofs.Common.{length}
use Rattle.gfx_clear_runs.specs.Reading.{part_of}
use Rattle.gfx_clear_runs.specs.Views.{reading}
use Rattle.gfx_clear_runs.proofs.Appending.{Onward}
use Rattle.gfx_clear_runs.proofs.read.append_part.Given as goal

abbrev pub invariant-elements : goal.invariant-elements
invariant-elements l = Onward l.area (part_of (reading l.coding) l.bytes) l.fn.out l.left (part_of (reading l.coding) l.rest) l.out

abbrev pub decreases-elements : goal.decreases-elements
decreases-elements l = length l.rest
