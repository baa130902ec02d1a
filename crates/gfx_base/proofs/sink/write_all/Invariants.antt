use Rattle.std.proofs.Common.{length}
use Rattle.gfx_base.specs.Stream.{change}
use Rattle.gfx_base.proofs.Streams.{Sent}
use Rattle.gfx_base.proofs.sink.write_all.Given as goal

abbrev pub invariant-pieces : goal.invariant-pieces
invariant-pieces g l =
    Sent (change (g.O.Sink.faults l.fn.out) (g.O.Sink.faults l.out) (g.O.Sink.held l.fn.out) (g.O.Sink.held l.out)) l.bytes l.rest

abbrev pub decreases-pieces : goal.decreases-pieces
decreases-pieces g l = length l.rest
