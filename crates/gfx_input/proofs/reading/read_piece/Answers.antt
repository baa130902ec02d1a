use Rattle.std.proofs.Common.{length, ◌+◌, take, arith}
use Rattle.std.proofs.lemmas.Result.{err_from_is_err_and}
use Rattle.gfx_base.specs.Stream.{change}
use Rattle.gfx_input.specs.declared.taker.Taken.TheVariants as taken
use Rattle.gfx_input.proofs.Pieces.{got_piece, turns_given, turns_broken}
use Rattle.gfx_input.proofs.reading.read_piece.Goals as goal

pub returns-in_err-give-clause-turns : goal.returns-in_err-give-clause-turns
returns-in_err-give-clause-turns g c = λ bytes before held there wrote.
    let p = err_from_is_err_and c.from_residual.result c.from_residual.ensures.1 in
    let read = change (g.I.Source.faults c.args.input.now) (g.I.Source.faults c.read.new.self) (g.I.Source.left c.args.input.now) (g.I.Source.left c.read.new.self) in
    let sent = change before (g.O.Sink.faults c.give.new.out) held (g.O.Sink.held c.give.new.out) in
    let size = rw c.split_at.ensures.front at c.split_at.ensures.front_len in
    rw (p.1, p.2) (turns_broken g.T.Taker.stands g.T.Taker.stops g.T.Taker.written c.in_err-give.field-0.0 (length bytes + c.args.room) read sent bytes (take c.in-Ok.count c.read.new.buf) c.give.new.self
    (got_piece read c.read.new.buf c.in-Ok.count c.in-Ok.ensures.count c.in-Ok.ensures.given size (omega (arith, c.requires.piece, c.in-Ok.ensures.within)))
    (omega (arith, size, c.in-Ok.ensures.within, c.requires.within, c.if-room-eq0.false)) (rw c.split_at.ensures.front at (c.in_err-give.ensures bytes before held there wrote)))

pub returns-in-More-clause-turns : goal.returns-in-More-clause-turns
returns-in-More-clause-turns g c = λ bytes before held there wrote.
    let read = change (g.I.Source.faults c.args.input.now) (g.I.Source.faults c.read.new.self) (g.I.Source.left c.args.input.now) (g.I.Source.left c.read.new.self) in
    let sent = change before (g.O.Sink.faults c.give.new.out) held (g.O.Sink.held c.give.new.out) in
    let size = rw c.split_at.ensures.front at c.split_at.ensures.front_len in
    turns_given g.T.Taker.stands g.T.Taker.stops g.T.Taker.written taken.More (length bytes + c.args.room) c.in-Ok.count read sent bytes (take c.in-Ok.count c.read.new.buf) c.give.new.self
    (got_piece read c.read.new.buf c.in-Ok.count c.in-Ok.ensures.count c.in-Ok.ensures.given size (omega (arith, c.requires.piece, c.in-Ok.ensures.within)))
    size (omega (arith, c.if-count-eq0.false)) (omega (arith, c.in-Ok.ensures.within, c.requires.within, c.if-room-eq0.false)) (rw (c.in-More.is, c.split_at.ensures.front) at (c.in_ok-give.ensures bytes before held there wrote))

pub returns-in-Stopped-clause-turns : goal.returns-in-Stopped-clause-turns
returns-in-Stopped-clause-turns g c = λ bytes before held there wrote.
    let read = change (g.I.Source.faults c.args.input.now) (g.I.Source.faults c.read.new.self) (g.I.Source.left c.args.input.now) (g.I.Source.left c.read.new.self) in
    let sent = change before (g.O.Sink.faults c.give.new.out) held (g.O.Sink.held c.give.new.out) in
    let size = rw c.split_at.ensures.front at c.split_at.ensures.front_len in
    turns_given g.T.Taker.stands g.T.Taker.stops g.T.Taker.written taken.Stopped (length bytes + c.args.room) c.in-Ok.count read sent bytes (take c.in-Ok.count c.read.new.buf) c.give.new.self
    (got_piece read c.read.new.buf c.in-Ok.count c.in-Ok.ensures.count c.in-Ok.ensures.given size (omega (arith, c.requires.piece, c.in-Ok.ensures.within)))
    size (omega (arith, c.if-count-eq0.false)) (omega (arith, c.in-Ok.ensures.within, c.requires.within, c.if-room-eq0.false)) (rw (c.in-Stopped.is, c.split_at.ensures.front) at (c.in_ok-give.ensures bytes before held there wrote))
