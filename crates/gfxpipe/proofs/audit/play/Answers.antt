use Rattle.std.proofs.lemmas.Result.{err_from_is_err_and}
use Rattle.gfx_base.specs.Stream.{change}
use Rattle.gfxpipe.proofs.Auditing.{heard_none, told_nothing}
use Rattle.gfxpipe.proofs.Audited.{broke_off, at_end, told_held, not_told_held}
use Rattle.gfxpipe.proofs.audit.play.Goals as goal

pub read_input-requires-clause-start : goal.read_input-requires-clause-start
read_input-requires-clause-start g c = heard_none c.args.auditor.now c.requires.start c.requires.first

pub read_input-requires-clause-silent : goal.read_input-requires-clause-silent
read_input-requires-clause-silent g c = told_nothing

pub returns-in_err-read : goal.returns-in_err-read
returns-in_err-read g c =
    let p = err_from_is_err_and c.from_residual.result c.from_residual.ensures.1 in
    rw (p.1, p.2) (broke_off c.in_err-read.field-0.0 c.args.limit _ _ c.read_input.new.taker c.in_err-read.ensures)

pub ending_of-ending-requires : goal.ending_of-ending-requires
ending_of-ending-requires g c =
    at_end c.in_ok-read.read c.args.limit (change (g.O.Sink.faults c.args.out.now) (g.O.Sink.faults c.read_input.new.out) (g.O.Sink.held c.args.out.now) (g.O.Sink.held c.read_input.new.out)) _ _ c.read_input.new.taker
    c.in_ok-read.ensures.2

pub returns-in_err-tell_held : goal.returns-in_err-tell_held
returns-in_err-tell_held g c =
    let p = err_from_is_err_and c.from_residual-in_err-tell_held.result c.from_residual-in_err-tell_held.ensures.1 in
    rw (p.1, p.2) (not_told_held c.in_err-tell_held.field-0.0 c.in_ok-read.read c.args.limit _ (g.O.Sink.faults c.args.out.now) (g.O.Sink.faults c.read_input.new.out) (g.O.Sink.faults c.tell_held.new.out) (g.O.Sink.held c.args.out.now) (g.O.Sink.held c.read_input.new.out) (g.O.Sink.held c.tell_held.new.out) c.read_input.new.taker c.in_ok-read.ensures c.in_err-tell_held.ensures)

pub returns : goal.returns
returns g c =
    rw c.ending_of-ending.ensures (told_held c.in_ok-read.read c.args.limit _ (g.O.Sink.faults c.args.out.now) (g.O.Sink.faults c.read_input.new.out) (g.O.Sink.faults c.tell_held.new.out) (g.O.Sink.held c.args.out.now) (g.O.Sink.held c.read_input.new.out) (g.O.Sink.held c.tell_held.new.out) c.read_input.new.taker c.in_ok-read.ensures c.in_ok-tell_held.ensures)
