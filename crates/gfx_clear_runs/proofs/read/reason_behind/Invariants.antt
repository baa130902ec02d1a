use Rattle.std.proofs.Common.{◌≡◌, length}
use Rattle.gfx_clear_runs.specs.Reading.{part_of}
use Rattle.gfx_clear_runs.specs.Inner.{reason_of}
use Rattle.gfx_clear_runs.specs.Views.{reading}
use Rattle.gfx_clear_runs.proofs.read.reason_behind.Given as goal

abbrev pub invariant-behind : goal.invariant-behind
invariant-behind l = reason_of (part_of (reading l.coding) l.bytes) ≡ reason_of (part_of (reading l.coding) l.rest)

abbrev pub decreases-behind : goal.decreases-behind
decreases-behind l = length l.rest
