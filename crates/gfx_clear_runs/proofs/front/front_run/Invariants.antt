use Rattle.std.proofs.Common.{◌≡◌, take, replicate}
use Rattle.gfx_clear_runs.proofs.front.front_run.Given as goal

abbrev pub invariant-loop-i : goal.invariant-loop-i
invariant-loop-i l = take l.i l.pixels ≡ replicate l.i l.colour
