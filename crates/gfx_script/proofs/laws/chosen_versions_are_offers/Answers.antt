use Rattle.gfx_script.proofs.ChosenOffers.{chosen_offered}
use Rattle.gfx_script.proofs.laws.chosen_versions_are_offers.Goals as goal

pub returns : goal.returns
returns c = chosen_offered
