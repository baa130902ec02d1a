use Rattle.std.proofs.Common.{◌≡◌, length}
use Rattle.gfx_clear_runs.specs.Elements.{entries}
use Rattle.gfx_clear_runs.proofs.palette.read_entries.Given as goal

abbrev pub invariant-loop-place : goal.invariant-loop-place
invariant-loop-place l = (l.colours.items ≡ entries l.place l.bytes) × (length l.colours.items ≡ l.place)
