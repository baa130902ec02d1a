use Rattle.gfx_tile_state.proofs.KnownSigns.{first-made, upgrade-made}
use Rattle.gfx_tile_state.proofs.laws.passes_of_one_transform.Goals as goal

pub returns-clause-first : goal.returns-clause-first
returns-clause-first c = first-made

pub returns-clause-upgrade : goal.returns-clause-upgrade
returns-clause-upgrade c = upgrade-made
