use Rattle.std.proofs.Common.{◌+◌, ◌-◌, length}
use Rattle.gfx_base.specs.Stream.{change}
use Rattle.gfx_chooser.specs.Seen.{seen}
use Rattle.gfxpipe.proofs.Planning.{Streaming}
use Rattle.gfxpipe.proofs.stream.write_frames.Given as goal

abbrev pub invariant-frames : goal.invariant-frames
invariant-frames g l =
    Streaming l.script (seen g.C.Chooser.reply g.C.Chooser.is_spent l.fn.choosers.items) (seen g.C.Chooser.reply g.C.Chooser.is_spent l.choosers.items) l.next l.planner l.frame
    (change (g.O.Sink.faults l.fn.out) (g.O.Sink.faults l.out) (g.O.Sink.held l.fn.out) (g.O.Sink.held l.out))

abbrev pub decreases-frames : goal.decreases-frames
decreases-frames g l = length l.script.steps + 1 - l.next
