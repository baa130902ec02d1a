use Rattle.std.proofs.Common.{◌∙◌, sym, ap}
use Rattle.gfx_caps.specs.Choice.{binds_small}
use Rattle.gfx_caps.proofs.OfferLaws.{small-some, small-none}
use Rattle.gfx_caps.proofs.offer.offers_small.Goals as goal

pub returns-in-Some : goal.returns-in-Some
returns-in-Some c =
    c.binds_small.ensures ∙ ap binds_small c.flags_offered.ensures ∙ small-some c.args.offers.now c.in-Some.offer (sym c.best_offer.ensures ∙ c.in-Some.is)

pub returns-in-None : goal.returns-in-None
returns-in-None c = small-none c.args.offers.now (sym c.best_offer.ensures ∙ c.in-None.is)
