use Rattle.gfx_laws.proofs.Raising.{improvements-raise}
use Rattle.gfx_laws.proofs.seen.improvements_raise_live_tiles.Goals as goal

pub returns : goal.returns
returns c = improvements-raise
