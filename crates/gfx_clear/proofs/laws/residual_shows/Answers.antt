use Rattle.gfx_clear.proofs.RowsShown.{residual_shows}
use Rattle.gfx_clear.proofs.laws.residual_shows.Goals as goal

pub returns : goal.returns
returns c = residual_shows
