use Rattle.std.proofs.Common.{Ok, Err, ◌∙◌, ◌<◌, ap, refl, length, Some, subst, sym}
use Rattle.gfx_segment.specs.Framing.{Splitter}
use Rattle.gfx_fragments.proofs.CuttingTurns.{takes_message, takes_none, takes_wrong, fewer_left, put_turns, none_turns, refused_turns, no_memory}
use Rattle.gfx_fragments.proofs.TurnLemmas.{if_more}
use Rattle.gfx_fragments.proofs.fragmenting.cut_next.Goals as goal

pub put_message-requires-clause-some : goal.put_message-requires-clause-some
put_message-requires-clause-some g c =
    (takes_message c.args.taker.now.splitter c.next_raw.new.self c.in-Ok-Some.message c.next_raw.result (c.in-Ok-Some.is ∙ ap (λ z. Ok z) c.in-Ok-Some.field-0-is) c.next_raw.ensures.exact).some

pub put_message-requires-clause-fits : goal.put_message-requires-clause-fits
put_message-requires-clause-fits g c =
    (takes_message c.args.taker.now.splitter c.next_raw.new.self c.in-Ok-Some.message c.next_raw.result (c.in-Ok-Some.is ∙ ap (λ z. Ok z) c.in-Ok-Some.field-0-is) c.next_raw.ensures.exact).fits

pub returns-in-Ok-Some-clause-turns : goal.returns-in-Ok-Some-clause-turns
returns-in-Ok-Some-clause-turns g c = λ bytes before held start.
    let t = takes_message c.args.taker.now.splitter c.next_raw.new.self c.in-Ok-Some.message c.next_raw.result (c.in-Ok-Some.is ∙ ap (λ z. Ok z) c.in-Ok-Some.field-0-is) c.next_raw.ensures.exact in
    put_turns before (g.O.Sink.faults c.args.out.now) (g.O.Sink.faults c.put_message.new.out) held (g.O.Sink.held c.args.out.now) (g.O.Sink.held c.put_message.new.out) c.args.taker.now c.put_message.new.taker c.next_raw.new.self
    bytes c.in-Ok-Some.message c.put_message.result start t c.put_message.ensures.splitter c.put_message.ensures.refusal c.put_message.ensures.number c.put_message.ensures.text

pub returns-in-Ok-Some-clause-fewer : goal.returns-in-Ok-Some-clause-fewer
returns-in-Ok-Some-clause-fewer g c =
    let t = takes_message c.args.taker.now.splitter c.next_raw.new.self c.in-Ok-Some.message c.next_raw.result (c.in-Ok-Some.is ∙ ap (λ z. Ok z) c.in-Ok-Some.field-0-is) c.next_raw.ensures.exact in
    if_more c.put_message.result _ (subst (λ (z : Splitter). length z.rest < length c.args.taker.now.splitter.rest) (sym c.put_message.ensures.splitter) (fewer_left c.args.taker.now.splitter c.next_raw.new.self c.in-Ok-Some.message t))

pub returns-in-Ok-None-clause-turns : goal.returns-in-Ok-None-clause-turns
returns-in-Ok-None-clause-turns g c = λ bytes before held start.
    none_turns _ c.args.taker.now (record c.args.taker.now { splitter = c.next_raw.new.self }) bytes start
    (takes_none c.args.taker.now.splitter c.next_raw.new.self c.next_raw.result (c.in-Ok-None.is ∙ ap (λ z. Ok z) c.in-Ok-None.field-0-is) c.next_raw.ensures.exact) refl refl

pub returns-in-Err-Refused-clause-turns : goal.returns-in-Err-Refused-clause-turns
returns-in-Err-Refused-clause-turns g c = λ bytes before held start.
    refused_turns _ c.args.taker.now (record c.args.taker.now { splitter = c.next_raw.new.self; refusal = Some c.in-Err-Refused.refusal }) bytes c.in-Err-Refused.refusal start
    (takes_wrong c.args.taker.now.splitter c.next_raw.new.self c.in-Err-Refused.refusal c.next_raw.result (c.in-Err-Refused.is ∙ ap (λ z. Err z) c.in-Err-Refused.field-0-is) start.clear c.next_raw.ensures.exact) refl refl

pub returns-in-Err-Memory-clause-turns : goal.returns-in-Err-Memory-clause-turns
returns-in-Err-Memory-clause-turns g c = λ bytes before held start. no_memory _ c.args.taker.now (record c.args.taker.now { splitter = c.next_raw.new.self }) bytes start
