use Rattle.std.proofs.Common.{◌∙◌, ◌+◌, Some, Err, refl, ap, take, drop}
use Rattle.std.specs.Result.{is_ok}
use Rattle.gfx_dvc.specs.declared.profile.TheConstants.{PREFIX}
use Rattle.gfx_fragments.proofs.JoiningTurns.{take_turns, refused_turns, no_memory, took, took_not, wanted, wants_any}
use Rattle.gfx_fragments.proofs.joining.take_fragment.Goals as goal

pub returns-in-Ok-clause-turns : goal.returns-in-Ok-clause-turns
returns-in-Ok-clause-turns g c = λ bytes before held start.
    take_turns before (g.O.Sink.faults c.args.out.now) (g.O.Sink.faults c.put_given.new.out) held (g.O.Sink.held c.args.out.now) (g.O.Sink.held c.put_given.new.out) c.args.taker.now
    (record { pending = c.pass.new.self; joiner = c.take.new.self; number = c.saturating_add-taker.result; refusal = c.args.taker.now.refusal }) bytes
    (take c.args.size (drop PREFIX c.args.taker.now.pending)) (drop (PREFIX + c.args.size) c.args.taker.now.pending) c.in-Ok.message c.put_given.result start c.requires.cut
    (took c.args.taker.now.joiner c.take.new.self _ _ c.in-Ok.message c.take.result c.in-Ok.is c.fragment.ensures c.take.ensures.exact) c.pass.ensures refl c.saturating_add-taker.ensures c.put_given.ensures

pub returns-in-Err-Refused-clause-turns : goal.returns-in-Err-Refused-clause-turns
returns-in-Err-Refused-clause-turns g c = λ bytes before held start.
    refused_turns _ c.args.taker.now (record { pending = c.args.taker.now.pending; joiner = c.take.new.self; number = c.args.taker.now.number; refusal = Some c.in-Err-Refused.refusal }) bytes
    (take c.args.size (drop PREFIX c.args.taker.now.pending)) (drop (PREFIX + c.args.size) c.args.taker.now.pending) c.in-Err-Refused.refusal start c.requires.cut
    (took_not c.args.taker.now.joiner c.take.new.self _ _ c.in-Err-Refused.refusal c.take.result (c.in-Err-Refused.is ∙ ap (λ z. Err z) c.in-Err-Refused.field-0-is) c.fragment.ensures c.take.ensures.exact) refl refl

pub returns-in-Err-Memory-clause-turns : goal.returns-in-Err-Memory-clause-turns
returns-in-Err-Memory-clause-turns g c = λ bytes before held start. no_memory _ c.args.taker.now c.args.taker.now bytes start

pub returns-in-Ok-clause-memory : goal.returns-in-Ok-clause-memory
returns-in-Ok-clause-memory g c =
    wants_any c.put_given.result _ (ap is_ok (took c.args.taker.now.joiner c.take.new.self _ _ c.in-Ok.message c.take.result c.in-Ok.is c.fragment.ensures c.take.ensures.exact))

pub returns-in-Err-Memory-clause-memory : goal.returns-in-Err-Memory-clause-memory
returns-in-Err-Memory-clause-memory g c =
    wanted c.args.taker.now.joiner _ _ c.take.result (c.in-Err-Memory.is ∙ ap (λ z. Err z) c.in-Err-Memory.field-0-is) c.fragment.ensures c.take.ensures.memory
