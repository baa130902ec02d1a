use Rattle.std.proofs.Common.{◌≤◌, ◌-◌, length}
use Rattle.gfx_session.proofs.session.most_rounds.Given as goal

abbrev pub invariant-steps : goal.invariant-steps
invariant-steps l = l.count ≤ length l.script.steps

abbrev pub decreases-steps : goal.decreases-steps
decreases-steps l = length l.script.steps - l.count
