use Rattle.std.proofs.Common.{◌≡◌}
use Rattle.gfx_base.specs.Stream.{Keeps}
use Rattle.gfx_streams.proofs.source.StdSourceSource.read.Given as goal

abbrev pub invariant-tries : goal.invariant-tries
invariant-tries g l =
    (l.self.faults ≡ l.initial.self.faults) × Keeps (g.R.Read.remaining l.initial.self.reader) (g.R.Read.remaining l.self.reader)
