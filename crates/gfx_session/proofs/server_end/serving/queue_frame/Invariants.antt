use Rattle.std.proofs.Common.{◌-◌, length}
use Rattle.gfx_chooser.specs.Seen.{seen}
use Rattle.gfx_session.proofs.Queueing.{Queueing}
use Rattle.gfx_session.proofs.server_end.serving.queue_frame.Given as goal

abbrev pub invariant-steps : goal.invariant-steps
invariant-steps g l =
    Queueing l.script l.last l.number (seen g.C.Chooser.reply g.C.Chooser.is_spent l.fn.choosers.items) (seen g.C.Chooser.reply g.C.Chooser.is_spent l.choosers.items) l.fn.window l.window

abbrev pub decreases-steps : goal.decreases-steps
decreases-steps g l = length l.script.steps - l.number
