use Rattle.gfx_planner.proofs.Within.{steps_write_within}
use Rattle.gfx_planner.proofs.laws.steps_write_within.Goals as goal

pub returns : goal.returns
returns c = steps_write_within
