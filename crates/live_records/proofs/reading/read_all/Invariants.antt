use Rattle.std.proofs.Common.{length, ◌-◌, ◌≤◌}
use Rattle.live_records.proofs.reading.read_all.Given as goal

abbrev pub invariant-pieces : goal.invariant-pieces
invariant-pieces g l = l.at ≤ length l.buffer

abbrev pub decreases-pieces : goal.decreases-pieces
decreases-pieces g l = length l.initial.buffer - l.at
