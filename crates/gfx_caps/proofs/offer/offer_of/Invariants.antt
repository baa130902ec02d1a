use Rattle.std.proofs.Common.{◌≡◌, drop}
use Rattle.gfx_caps.specs.Offers.{offer_of}
use Rattle.gfx_caps.proofs.offer.offer_of.Given as goal

abbrev pub invariant-offers : goal.invariant-offers
invariant-offers l = offer_of l.version l.offers ≡ offer_of l.version (drop l.offer-index l.offers)
