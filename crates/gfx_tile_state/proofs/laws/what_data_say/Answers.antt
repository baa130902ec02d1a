use Rattle.gfx_tile_state.proofs.Making.{entries-are-due}
use Rattle.gfx_tile_state.proofs.Said.{always-entries}
use Rattle.gfx_tile_state.proofs.laws.what_data_say.Goals as goal

pub returns-clause-says : goal.returns-clause-says
returns-clause-says c = always-entries

pub returns-clause-only : goal.returns-clause-only
returns-clause-only c = entries-are-due
