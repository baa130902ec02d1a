use Rattle.std.proofs.Common.{ℕ, List, Option, length}
use Rattle.gfx_base.specs.Stream.{change}
use Rattle.gfx_fragments.specs.Turns.{IsJoining}
use Rattle.gfx_fragments.proofs.joining.join_all.Given as goal

abbrev pub invariant-fragments : goal.invariant-fragments
invariant-fragments g l =
    (bytes : List ℕ) (before : ℕ) (held : Option (List ℕ)) → IsJoining l.fn.taker bytes (change before (g.O.Sink.faults l.fn.out) held (g.O.Sink.held l.fn.out))
    → IsJoining l.taker bytes (change before (g.O.Sink.faults l.out) held (g.O.Sink.held l.out))

abbrev pub decreases-fragments : goal.decreases-fragments
decreases-fragments g l = length l.taker.pending
