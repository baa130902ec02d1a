use Rattle.gfx_prog_law.proofs.Lengths.{paint-short}
use Rattle.gfx_prog_law.proofs.paint_is_short.Goals as goal

pub returns : goal.returns
returns c = paint-short
