use Rattle.gfx_prog_law.proofs.Turns.{improve-accepted}
use Rattle.gfx_prog_law.proofs.improve_is_accepted.Goals as goal

pub returns : goal.returns
returns c = improve-accepted
