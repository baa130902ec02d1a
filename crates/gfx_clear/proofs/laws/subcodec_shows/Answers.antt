use Rattle.gfx_clear.proofs.RowsShown.{subcodec_shows}
use Rattle.gfx_clear.proofs.laws.subcodec_shows.Goals as goal

pub returns : goal.returns
returns c = subcodec_shows
