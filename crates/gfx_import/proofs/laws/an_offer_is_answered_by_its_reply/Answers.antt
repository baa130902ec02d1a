use Rattle.gfx_import.proofs.MessageLemmas.{offer-answered, reply-read}
use Rattle.gfx_import.proofs.laws.an_offer_is_answered_by_its_reply.Goals as goal

pub returns-clause-answered : goal.returns-clause-answered
returns-clause-answered c = offer-answered

pub returns-clause-read : goal.returns-clause-read
returns-clause-read c = reply-read
