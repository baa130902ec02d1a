use Rattle.gfx_clear_bands.proofs.ColumnsShown.{band_shows}
use Rattle.gfx_clear_bands.proofs.laws.band_shows.Goals as goal

pub returns : goal.returns
returns c = band_shows
