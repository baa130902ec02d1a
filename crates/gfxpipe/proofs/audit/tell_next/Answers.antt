use Rattle.std.proofs.Common.{refl}
use Rattle.gfx_state.specs.State.{fresh}
use Rattle.gfxpipe.proofs.Auditing.{refused_step, told_step}
use Rattle.gfxpipe.proofs.audit.tell_next.Goals as goal

pub returns-in-Ok : goal.returns-in-Ok
returns-in-Ok g c =
    told_step c.args.auditor.now (record { client = c.step.new.self; number = c.args.auditor.now.number }) c.tell.new.auditor c.in-Ok.stepped c.tell.result _ c.requires c.in-Ok.ensures.steps (c.in-Ok.ensures.stands fresh) refl
    c.tell.ensures.client (rw c.message_in.ensures at c.tell.ensures.tells)

pub returns-in-Err-Refused : goal.returns-in-Err-Refused
returns-in-Err-Refused g c =
    refused_step c.args.auditor.now (record { client = c.step.new.self; number = c.args.auditor.now.number }) c.in-Err-Refused.field-0-0 _ c.in-Err-Refused.field-0-1 _ c.requires
    (rw c.in-Err-Refused.field-0-is at c.in-Err-Refused.ensures.steps) refl
