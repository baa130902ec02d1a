use Rattle.std.proofs.Common.{◌∙◌, ap, ◌++◌}
use Rattle.gfx_import.specs.Messages.{offer_text, reply_text}
use Rattle.gfx_import.specs.Offered.{offers_of}
use Rattle.gfx_session.proofs.KeptClient.{begins_own, offer_accepted, reply_accepted}
use Rattle.gfx_session.proofs.importing.import_kept.Goals as goal

pub answer_offer-requires : goal.answer_offer-requires
answer_offer-requires c =
    let offer = c.as_slice.ensures ∙ c.in_ok-write_offer.ensures.ok ∙ ap (λ z. z ++ offer_text (offers_of c.args.kept.now)) c.new-offer.ensures in
    offer_accepted c.args.server.now c.args.kept.now c.args.small c.as_slice.result.now c.in_ok-write_offer.ensures.kept offer

pub take_answer-requires-clause-accepted : goal.take_answer-requires-clause-accepted
take_answer-requires-clause-accepted c =
    let offer = c.as_slice.ensures ∙ c.in_ok-write_offer.ensures.ok ∙ ap (λ z. z ++ offer_text (offers_of c.args.kept.now)) c.new-offer.ensures in
    reply_accepted c.args.server.now c.args.kept.now c.args.small c.as_slice.result.now c.as_slice-2.result.now c.in_ok-write_offer.ensures.kept offer
    (λ count is. c.as_slice-2.ensures ∙ c.in_ok-answer_offer.ensures count is ∙ ap (λ z. z ++ reply_text count) c.new-answer.ensures)

pub returns-clause-stands : goal.returns-clause-stands
returns-clause-stands c =
    let offer = c.as_slice.ensures ∙ c.in_ok-write_offer.ensures.ok ∙ ap (λ z. z ++ offer_text (offers_of c.args.kept.now)) c.new-offer.ensures in
    begins_own c.take_answer.result c.args.server.now c.args.kept.now c.args.small c.as_slice.result.now c.as_slice-2.result.now c.take_answer.new.client c.in_ok-write_offer.ensures.kept offer
    (λ count is. c.as_slice-2.ensures ∙ c.in_ok-answer_offer.ensures count is ∙ ap (λ z. z ++ reply_text count) c.new-answer.ensures) c.take_answer.ensures.stands
