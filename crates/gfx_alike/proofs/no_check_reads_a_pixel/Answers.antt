use Rattle.gfx_alike.proofs.Steps.{alike_steps}
use Rattle.gfx_alike.proofs.no_check_reads_a_pixel.Goals as goal

pub returns : goal.returns
returns c = alike_steps
