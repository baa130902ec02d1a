use Rattle.gfx_prog_law.proofs.Turns.{paint-accepted}
use Rattle.gfx_prog_law.proofs.paint_is_accepted.Goals as goal

pub returns : goal.returns
returns c = paint-accepted
