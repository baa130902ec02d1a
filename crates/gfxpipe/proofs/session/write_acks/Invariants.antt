use Rattle.std.proofs.Common.{drop}
use Rattle.std.specs.List.{flat_map}
use Rattle.gfx_base.specs.Stream.{change}
use Rattle.gfx_base.proofs.Streams.{Sent}
use Rattle.gfxpipe.specs.Sessions.{acked_line}
use Rattle.gfxpipe.proofs.session.write_acks.Given as goal

abbrev pub invariant-acks : goal.invariant-acks
invariant-acks g l =
    Sent (change (g.O.Sink.faults l.fn.out) (g.O.Sink.faults l.out) (g.O.Sink.held l.fn.out) (g.O.Sink.held l.out))
    (flat_map acked_line l.acks) (flat_map acked_line (drop l.ack-index l.acks))
