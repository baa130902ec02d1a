use Rattle.std.proofs.lemmas.Result.{err_from_is_err_and}
use Rattle.gfxpipe.proofs.Auditing.{goes_on, telling_none, telling_more, fewer_left, told_end, told_fault}
use Rattle.gfxpipe.proofs.audit.tell_all.Goals as goal

pub messages-init : goal.messages-init
messages-init g c = telling_none c.args.auditor.now _ _ c.requires

pub returns-in_err-taken : goal.returns-in_err-taken
returns-in_err-taken g c =
    let p = err_from_is_err_and c.from_residual.result c.from_residual.ensures.1 in
    rw (p.1, p.2) (told_fault _ _ _ _ _ _ c.args.auditor.now c.messages.auditor c.tell_next.new.auditor c.in_err-taken.field-0.0 c.messages.invariant c.in_err-taken.ensures)

pub returns-in-Some : goal.returns-in-Some
returns-in-Some g c =
    told_end _ _ _ _ _ _ c.args.auditor.now c.messages.auditor c.tell_next.new.auditor c.in-Some.taken c.messages.invariant (rw c.in-Some.is at c.in_ok-taken.ensures)

pub messages-preserved : goal.messages-preserved
messages-preserved g c =
    telling_more _ _ _ _ _ _ c.args.auditor.now c.messages.auditor c.tell_next.new.auditor c.messages.invariant
    (goes_on c.messages.auditor c.tell_next.new.auditor c.in_ok-taken.field-0 _ c.in_default.not-Some c.in_ok-taken.ensures)

pub messages-smaller : goal.messages-smaller
messages-smaller g c =
    fewer_left c.messages.auditor c.tell_next.new.auditor _
    (goes_on c.messages.auditor c.tell_next.new.auditor c.in_ok-taken.field-0 _ c.in_default.not-Some c.in_ok-taken.ensures)
