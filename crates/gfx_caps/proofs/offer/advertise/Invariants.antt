use Rattle.std.proofs.Common.{◌≡◌, map, take}
use Rattle.gfx_caps.specs.Offers.{set_offered}
use Rattle.gfx_caps.proofs.offer.advertise.Given as goal

abbrev pub invariant-offers : goal.invariant-offers
invariant-offers l = l.sets ≡ map set_offered (take l.offer-index l.offers)
