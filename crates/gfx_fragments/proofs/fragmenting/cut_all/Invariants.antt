use Rattle.std.proofs.Common.{ℕ, List, Option, length}
use Rattle.gfx_base.specs.Stream.{change}
use Rattle.gfx_fragments.specs.Turns.{IsCutting}
use Rattle.gfx_fragments.proofs.fragmenting.cut_all.Given as goal

abbrev pub invariant-messages : goal.invariant-messages
invariant-messages g l =
    (bytes : List ℕ) (before : ℕ) (held : Option (List ℕ)) → IsCutting l.fn.taker bytes (change before (g.O.Sink.faults l.fn.out) held (g.O.Sink.held l.fn.out))
    → IsCutting l.taker bytes (change before (g.O.Sink.faults l.out) held (g.O.Sink.held l.out))

abbrev pub decreases-messages : goal.decreases-messages
decreases-messages g l = length l.taker.splitter.rest
