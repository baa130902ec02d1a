use Rattle.gfx_prog_law.proofs.Improving.{improvements-taken}
use Rattle.gfx_prog_law.proofs.improvements_are_taken.Goals as goal

pub returns : goal.returns
returns c = improvements-taken
