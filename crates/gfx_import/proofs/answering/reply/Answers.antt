use Rattle.gfx_base.proofs.Wanting.{wants_any}
use Rattle.gfx_import.specs.declared.limits.TheConstants.{OFFER}
use Rattle.gfx_import.specs.Messages.{import_offer, is_headed}
use Rattle.gfx_import.proofs.MessageLemmas.{headed-ok}
use Rattle.gfx_import.proofs.answering.reply.Goals as goal

pub returns-in_err-write_reply-clause-memory : goal.returns-in_err-write_reply-clause-memory
returns-in_err-write_reply-clause-memory c =
    wants_any c.from_residual-in_err-write_reply.result (is_headed OFFER c.args.offer.now) (headed-ok OFFER import_offer c.args.offer.now c.in_ok-offers.offers c.in_ok-offers.ensures.value)
