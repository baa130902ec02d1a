use Rattle.gfx_tile_make.proofs.Sources.{last-direct, last-shown}
use Rattle.gfx_tile_make.proofs.laws.last_is_direct.Goals as goal

pub returns-clause-coefficients : goal.returns-clause-coefficients
returns-clause-coefficients c source component may = last-direct source component may

pub returns-clause-pixels : goal.returns-clause-pixels
returns-clause-pixels c source may y x = last-shown source may y x
