use Rattle.std.proofs.Common.{ap, ◌∙◌, sym}
use Rattle.gfx_segment.specs.Framing.{front}
use Rattle.gfx_segment.proofs.NextLemmas.{none_kept, may_give_at}
use Rattle.gfx_segment.proofs.PayloadLemmas.{was_closed, opens_refused, opens_short, opens_bad, opens_unread, opens_whole}
use Rattle.gfx_segment.proofs.payloads.Payloads.open_next.Goals as goal

pub returns-in-Some-clause-opens : goal.returns-in-Some-clause-opens
returns-in-Some-clause-opens c =
    let s = c.self.inside in
    let at = was_closed c.args.self.now s.splitter s.joined s.place c.self.view_is c.self.invariant c.requires in
    opens_refused c.args.self.now s.splitter c.in-Some.refusal at (sym c.kept.ensures ∙ c.in-Some.is)

pub returns-in-Short-clause-opens : goal.returns-in-Short-clause-opens
returns-in-Short-clause-opens c =
    let s = c.self.inside in
    let at = was_closed c.args.self.now s.splitter s.joined s.place c.self.view_is c.self.invariant c.requires in
    let short = opens_short c.args.self.now s.splitter at (none_kept _ _ c.kept.ensures c.in_default.not-Some) (ap front (sym c.rest.ensures) ∙ c.in-Short.ensures) in
    (short.0, short.1)

pub returns-in-Bad-clause-opens : goal.returns-in-Bad-clause-opens
returns-in-Bad-clause-opens c =
    let s = c.self.inside in
    let at = was_closed c.args.self.now s.splitter s.joined s.place c.self.view_is c.self.invariant c.requires in
    opens_bad c.args.self.now s.splitter c.keep.new.self at (none_kept _ _ c.kept.ensures c.in_default.not-Some) (ap front (sym c.rest.ensures) ∙ c.in-Bad.ensures) c.keep.ensures

pub returns-in-Ok-clause-opens : goal.returns-in-Ok-clause-opens
returns-in-Ok-clause-opens c =
    let s = c.self.inside in
    let at = was_closed c.args.self.now s.splitter s.joined s.place c.self.view_is c.self.invariant c.requires in
    let whole = rw c.rest.ensures at c.in-Whole.ensures.cut in
    opens_whole c.args.self.now _ s.splitter _ _ at (none_kept _ _ c.kept.ensures c.in_default.not-Some) whole c.in-Ok.ensures.opens.gives c.in-Ok.ensures.opens.behind

pub returns-in-Err-Refused-clause-opens : goal.returns-in-Err-Refused-clause-opens
returns-in-Err-Refused-clause-opens c =
    let s = c.self.inside in
    let at = was_closed c.args.self.now s.splitter s.joined s.place c.self.view_is c.self.invariant c.requires in
    let whole = rw c.rest.ensures at c.in-Whole.ensures.cut in
    let read = rw c.in-Err-Refused.field-0-is at c.in-Err-Refused.ensures.opens in
    opens_unread c.args.self.now s.splitter c.keep-in-Err-Refused.new.self _ _ c.in-Err-Refused.refusal at (none_kept _ _ c.kept.ensures c.in_default.not-Some) whole read.0 c.keep-in-Err-Refused.ensures

pub returns-in-Err-Memory-clause-opens : goal.returns-in-Err-Memory-clause-opens
returns-in-Err-Memory-clause-opens c =
    let s = c.self.inside in
    let at = was_closed c.args.self.now s.splitter s.joined s.place c.self.view_is c.self.invariant c.requires in
    let same = rw c.in-Err-Memory.field-0-is at c.in-Err-Memory.ensures.opens in
    rw same (sym at)

pub returns-in-Err-Memory-clause-memory : goal.returns-in-Err-Memory-clause-memory
returns-in-Err-Memory-clause-memory c =
    let s = c.self.inside in
    let at = was_closed c.args.self.now s.splitter s.joined s.place c.self.view_is c.self.invariant c.requires in
    let whole = rw c.rest.ensures at c.in-Whole.ensures.cut in
    let read = rw c.in-Err-Memory.field-0-is at c.in-Err-Memory.ensures.memory in
    rw at (may_give_at s.splitter _ _ (none_kept _ _ c.kept.ensures c.in_default.not-Some) whole read)
