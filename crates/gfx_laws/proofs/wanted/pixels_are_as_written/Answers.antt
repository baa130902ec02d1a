use Rattle.gfx_laws.proofs.Seeing.{pixels-as-written}
use Rattle.gfx_laws.proofs.wanted.pixels_are_as_written.Goals as goal

pub returns : goal.returns
returns c = pixels-as-written
