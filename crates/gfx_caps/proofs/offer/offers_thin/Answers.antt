use Rattle.std.proofs.Common.{◌∙◌, sym}
use Rattle.gfx_caps.proofs.OfferLaws.{thin-some, thin-none}
use Rattle.gfx_caps.proofs.offer.offers_thin.Goals as goal

pub returns-in-Some : goal.returns-in-Some
returns-in-Some c = thin-some c.args.offers.now c.in-Some.offer (sym c.best_offer.ensures ∙ c.in-Some.is)

pub returns-in-None : goal.returns-in-None
returns-in-None c = thin-none c.args.offers.now (sym c.best_offer.ensures ∙ c.in-None.is)
