use Rattle.gfx_tile_make.proofs.Sources.{difference-kept, plain-kept}
use Rattle.gfx_tile_make.proofs.laws.kept_is_due.Goals as goal

pub returns-clause-plain : goal.returns-clause-plain
returns-clause-plain c source component level e = plain-kept source component level e

pub returns-clause-difference : goal.returns-clause-difference
returns-clause-difference c source kept component level may e = difference-kept source kept component level may e
