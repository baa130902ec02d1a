use Rattle.gfx_laws.proofs.Staying.{pixels-stay}
use Rattle.gfx_laws.proofs.seen.pixels_stay_until_written.Goals as goal

pub returns : goal.returns
returns c = pixels-stay
