use Rattle.std.proofs.Common.{◌+◌, ◌≤◌, refl, rules, arith, subst, sym, drop, length-append}
use Rattle.std.proofs.lemmas.List.{length-take, length-drop}
use Rattle.std.proofs.lemmas.Result.{err_from_is_err_and}
use Rattle.gfx_base.specs.Stream.{change, Gains}
use Rattle.gfx_base.proofs.Streams.{Gains_none}
use Rattle.gfx_input.proofs.Pieces.{reading_none, reading_more, reads_end, reads_fault}
use Rattle.gfx_input.proofs.reading.read_input.Goals as goal

pub pieces-init : goal.pieces-init
pieces-init g c =
    let wrote = subst (Gains (change (g.O.Sink.faults c.args.out.now) (g.O.Sink.faults c.args.out.now) (g.O.Sink.held c.args.out.now) (g.O.Sink.held c.args.out.now))) (sym c.requires.silent) (Gains_none _ _) in
    (reading_none _ (g.T.Taker.allowed c.args.limit) _ _ c.args.taker.now (c.requires.start, wrote), refl)

pub returns-in_err-count : goal.returns-in_err-count
returns-in_err-count g c =
    let p = err_from_is_err_and c.from_residual.result c.from_residual.ensures.1 in
    let r = c.pieces.invariant.0 in
    let sized = r.sized in let within = r.within in let allowed = c.allowed.ensures r.bytes r.there.0 in
    let turn = c.in_err-count.ensures.turns r.bytes (g.O.Sink.faults c.args.out.now) (g.O.Sink.held c.args.out.now) r.there.0 r.there.1 in
    rw (p.1, p.2) (reads_fault g.T.Taker.stands g.T.Taker.stops g.T.Taker.is_fine g.T.Taker.written (g.T.Taker.allowed c.args.limit) _ _ _ _ c.pieces.taken _ _ _ _ _ c.pieces.taker c.read_piece.new.taker c.in_err-count.field-0.0
    g.met.T.Taker.fronts (g.met.T.Taker.grows c.args.limit) r (omega arith) turn)

pub overflow_add-taken : goal.overflow_add-taken
overflow_add-taken g c =
    let r = c.pieces.invariant.0 in
    let sized = r.sized in let within = r.within in let allowed = c.allowed.ensures r.bytes r.there.0 in
    let on = rw c.in-More.is at (c.in_ok-count.ensures.turns r.bytes (g.O.Sink.faults c.args.out.now) (g.O.Sink.held c.args.out.now) r.there.0 r.there.1) in
    let near = on.within in
    let below : c.pieces.taken + c.in-More.count ≤ c.allowed.result = omega arith in search rules

pub pieces-smaller : goal.pieces-smaller
pieces-smaller g c =
    let r = c.pieces.invariant.0 in
    let sized = r.sized in let within = r.within in let allowed = c.allowed.ensures r.bytes r.there.0 in
    let on = rw c.in-More.is at (c.in_ok-count.ensures.turns r.bytes (g.O.Sink.faults c.args.out.now) (g.O.Sink.held c.args.out.now) r.there.0 r.there.1) in
    let near = on.within in let some = on.some in
    let below : c.pieces.taken + c.in-More.count ≤ c.allowed.result = omega arith in search rules

pub pieces-preserved : goal.pieces-preserved
pieces-preserved g c =
    let r = c.pieces.invariant.0 in
    let sized = r.sized in let within = r.within in let allowed = c.allowed.ensures r.bytes r.there.0 in
    let on = rw c.in-More.is at (c.in_ok-count.ensures.turns r.bytes (g.O.Sink.faults c.args.out.now) (g.O.Sink.held c.args.out.now) r.there.0 r.there.1) in (
      reading_more _ _ (g.T.Taker.allowed c.args.limit) _ _ _ _ c.in-More.count c.pieces.taken _ _ _ c.pieces.taker c.read_piece.new.taker (g.met.T.Taker.grows c.args.limit) r (omega arith) on,
      omega (
        arith,
        c.in_ok-count.ensures.size,
        c.min-size.ensures,
        c.max.ensures,
        c.pieces.invariant.1,
        length-append c.read_piece.new.buffer (drop c.min-size.result c.pieces.buffer),
        length-drop c.min-size.result c.pieces.buffer,
        length-take c.min-size.result c.pieces.buffer,
      ),
    )

pub returns-in-Ended : goal.returns-in-Ended
returns-in-Ended g c =
    let r = c.pieces.invariant.0 in
    let sized = r.sized in let within = r.within in let allowed = c.allowed.ensures r.bytes r.there.0 in
    let turn = rw c.in-Ended.is at (c.in_ok-count.ensures.turns r.bytes (g.O.Sink.faults c.args.out.now) (g.O.Sink.held c.args.out.now) r.there.0 r.there.1) in
    reads_end g.T.Taker.stands g.T.Taker.stops g.T.Taker.is_fine g.T.Taker.written (g.T.Taker.allowed c.args.limit) _ _ _ _ c.pieces.taken _ _ _ _ _ c.pieces.taker c.read_piece.new.taker c.in-Ended.read
    g.met.T.Taker.fronts (g.met.T.Taker.grows c.args.limit) (g.met.T.Taker.settles c.args.limit) r (omega arith) turn
