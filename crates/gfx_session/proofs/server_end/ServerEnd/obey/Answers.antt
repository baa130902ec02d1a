use Rattle.std.proofs.Common.{ap, ◌∙◌, Ok}
use Rattle.std.proofs.lemmas.Result.{err_from_is_err_and}
use Rattle.gfx_session.proofs.Messages.{unread, tells_offers, tells_frame, tells_kept, tells_times}
use Rattle.gfx_session.proofs.server_end.ServerEnd.obey.Goals as goal

pub returns-in_err-sets-clause-obeys : goal.returns-in_err-sets-clause-obeys
returns-in_err-sets-clause-obeys c =
    let p = err_from_is_err_and c.from_residual.result c.from_residual.ensures.1 in
    rw (p.1, p.2) (unread c.args.self.now.script c.args.self.now c.args.out.now c.args.taken.now.items c.in_err-sets.field-0.0 _ c.in_err-sets.ensures.value)

pub returns-in-Advertise-clause-obeys : goal.returns-in-Advertise-clause-obeys
returns-in-Advertise-clause-obeys c =
    tells_offers c.args.self.now.script c.confirm.result c.args.self.now c.confirm.new.self c.args.out.now c.confirm.new.out c.args.taken.now.items c.args.taken.now.items c.in-Advertise.sets _
    (c.in_ok-sets.ensures.value ∙ ap Ok c.in-Advertise.is) (c.confirm.ensures.obeys c.args.taken.now.items)

pub returns-in-Ack-clause-obeys : goal.returns-in-Ack-clause-obeys
returns-in-Ack-clause-obeys c =
    tells_frame c.args.self.now.script c.acknowledge.result c.args.self.now c.acknowledge.new.self c.args.out.now c.args.out.now c.args.taken.now.items c.acknowledge.new.taken.items c.in-Ack.depth c.in-Ack.frame c.in-Ack.total _
    (c.in_ok-sets.ensures.value ∙ ap Ok c.in-Ack.is) (c.acknowledge.ensures.obeys c.args.out.now)

pub returns-in-ImportOffer-clause-obeys : goal.returns-in-ImportOffer-clause-obeys
returns-in-ImportOffer-clause-obeys c =
    tells_kept c.args.self.now.script c.decline.result c.args.self.now c.args.self.now c.args.out.now c.decline.new.out c.args.taken.now.items c.args.taken.now.items c.in-ImportOffer.entries _
    (c.in_ok-sets.ensures.value ∙ ap Ok c.in-ImportOffer.is) (c.decline.ensures c.args.taken.now.items)

pub returns-clause-obeys : goal.returns-clause-obeys
returns-clause-obeys c =
    tells_times c.args.self.now.script c.args.self.now c.args.out.now c.args.taken.now.items c.in-QoeAck.frame c.in-QoeAck.timestamp c.in-QoeAck.decoding c.in-QoeAck.rendering _ (c.in_ok-sets.ensures.value ∙ ap Ok c.in-QoeAck.is)
