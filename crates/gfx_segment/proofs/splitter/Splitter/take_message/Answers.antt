use Rattle.std.proofs.Common.{sym, ◌∙◌, ap}
use Rattle.gfx_segment.specs.Framing.{front, payload, is_described}
use Rattle.gfx_segment.proofs.NextLemmas.{next_refused, next_short, next_bad, next_whole, next_unread, none_kept, may_give_at}
use Rattle.gfx_segment.proofs.splitter.Splitter.take_message.Goals as goal

pub returns-in-Some-clause-exact : goal.returns-in-Some-clause-exact
returns-in-Some-clause-exact c = next_refused _ c.args.self.now c.in-Some.refusal (sym c.kept.ensures ∙ c.in-Some.is)

pub returns-in-Short-clause-exact : goal.returns-in-Short-clause-exact
returns-in-Short-clause-exact c =
    next_short _ c.args.self.now (none_kept _ _ c.kept.ensures c.in_default.not-Some) (ap front (sym c.rest.ensures) ∙ c.in-Short.ensures)

pub returns-in-Bad-clause-exact : goal.returns-in-Bad-clause-exact
returns-in-Bad-clause-exact c =
    next_bad _ c.args.self.now c.keep.new.self (none_kept _ _ c.kept.ensures c.in_default.not-Some) (ap front (sym c.rest.ensures) ∙ c.in-Bad.ensures) c.keep.ensures

pub returns-in-Ok-clause-exact : goal.returns-in-Ok-clause-exact
returns-in-Ok-clause-exact c =
    let whole = rw c.rest.ensures at c.in-Whole.ensures.cut in
    next_whole _ c.args.self.now c.pass.new.self _ _ c.in-Ok.payload (none_kept _ _ c.kept.ensures c.in_default.not-Some) whole
    (ap payload (sym c.message.ensures) ∙ c.in-Ok.ensures.value) c.pass.ensures

pub returns-in-Err-Refused-clause-exact : goal.returns-in-Err-Refused-clause-exact
returns-in-Err-Refused-clause-exact c =
    let whole = rw c.rest.ensures at c.in-Whole.ensures.cut in
    let read = rw c.in-Err-Refused.field-0-is at c.in-Err-Refused.ensures.value in
    next_unread _ c.args.self.now c.keep-in-Err-Refused.new.self _ _ c.in-Err-Refused.refusal (none_kept _ _ c.kept.ensures c.in_default.not-Some) whole
    (ap payload (sym c.message.ensures) ∙ read) c.keep-in-Err-Refused.ensures

pub returns-in-Err-Memory-clause-memory : goal.returns-in-Err-Memory-clause-memory
returns-in-Err-Memory-clause-memory c =
    let whole = rw c.rest.ensures at c.in-Whole.ensures.cut in
    let read = rw c.in-Err-Memory.field-0-is at c.in-Err-Memory.ensures.memory in
    may_give_at c.args.self.now _ _ (none_kept _ _ c.kept.ensures c.in_default.not-Some) whole (ap is_described (sym c.message.ensures) ∙ read)
