use Rattle.gfx_prog_law.proofs.Lengths.{improve-short}
use Rattle.gfx_prog_law.proofs.improve_is_short.Goals as goal

pub returns : goal.returns
returns c = improve-short
