use Rattle.gfx_schedule.proofs.Rounds.{rounds_end}
use Rattle.gfx_schedule.proofs.laws.rounds_end.Goals as goal

pub returns : goal.returns
returns c = rounds_end
