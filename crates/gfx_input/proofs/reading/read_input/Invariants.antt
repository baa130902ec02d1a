use Rattle.std.proofs.Common.{◌-◌, ◌≡◌, length}
use Rattle.gfx_base.specs.Stream.{change}
use Rattle.gfx_input.specs.declared.reading.TheConstants.{PIECE}
use Rattle.gfx_input.specs.Reading.{Wrote}
use Rattle.gfx_input.proofs.Pieces.{Reading}
use Rattle.gfx_input.proofs.reading.read_input.Given as goal

abbrev pub invariant-pieces : goal.invariant-pieces
invariant-pieces g l =
    Reading (Wrote g.T.Taker.stands g.T.Taker.written (change (g.O.Sink.faults l.fn.out) (g.O.Sink.faults l.out) (g.O.Sink.held l.fn.out) (g.O.Sink.held l.out))) (g.T.Taker.allowed l.limit)
    (change (g.I.Source.faults l.fn.input) (g.I.Source.faults l.input) (g.I.Source.left l.fn.input) (g.I.Source.left l.input)) l.taken l.taker × (length l.buffer ≡ PIECE)

abbrev pub decreases-pieces : goal.decreases-pieces
decreases-pieces g l = 18446744073709551616 - l.taken
