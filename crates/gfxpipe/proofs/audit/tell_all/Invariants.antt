use Rattle.std.proofs.Common.{length}
use Rattle.gfx_base.specs.Stream.{change}
use Rattle.gfxpipe.specs.Auditing.{due_of}
use Rattle.gfxpipe.proofs.Auditing.{Telling}
use Rattle.gfxpipe.proofs.audit.tell_all.Given as goal

abbrev pub invariant-messages : goal.invariant-messages
invariant-messages g l =
    Telling l.fn.auditor l.auditor (change (g.O.Sink.faults l.fn.out) (g.O.Sink.faults l.out) (g.O.Sink.held l.fn.out) (g.O.Sink.held l.out))

abbrev pub decreases-messages : goal.decreases-messages
decreases-messages g l = length (due_of l.auditor)
