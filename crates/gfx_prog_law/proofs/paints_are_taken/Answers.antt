use Rattle.gfx_prog_law.proofs.Painting.{paints-taken}
use Rattle.gfx_prog_law.proofs.paints_are_taken.Goals as goal

pub returns : goal.returns
returns c = paints-taken
