use Rattle.std.proofs.Common.{◌≡◌}
use Rattle.gfx_base.specs.Stream.{Keeps}
use Rattle.gfx_streams.proofs.sink.StdSinkSink.write.Given as goal

abbrev pub invariant-tries : goal.invariant-tries
invariant-tries g l =
    (l.self.faults ≡ l.initial.self.faults) × Keeps (g.W.Write.contents l.initial.self.writer) (g.W.Write.contents l.self.writer)
