use Rattle.gfx_tile_state.proofs.KnownSigns.{known-sign, known-way}
use Rattle.gfx_tile_state.proofs.laws.known_signs.Goals as goal

pub returns-clause-signs : goal.returns-clause-signs
returns-clause-signs c = known-sign

pub returns-clause-ways : goal.returns-clause-ways
returns-clause-ways c = known-way
