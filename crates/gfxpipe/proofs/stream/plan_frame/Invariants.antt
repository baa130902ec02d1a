use Rattle.std.proofs.Common.{◌+◌, ◌-◌, length}
use Rattle.gfx_chooser.specs.Seen.{seen}
use Rattle.gfxpipe.proofs.Planning.{PlansOn}
use Rattle.gfxpipe.proofs.stream.plan_frame.Given as goal

abbrev pub invariant-steps : goal.invariant-steps
invariant-steps g l =
    PlansOn l.script l.first l.fn.planner (seen g.C.Chooser.reply g.C.Chooser.is_spent l.fn.choosers.items) (seen g.C.Chooser.reply g.C.Chooser.is_spent l.choosers.items)
    l.number l.planner l.fn.out l.out

abbrev pub decreases-steps : goal.decreases-steps
decreases-steps g l = length l.script.steps + 1 - l.number
