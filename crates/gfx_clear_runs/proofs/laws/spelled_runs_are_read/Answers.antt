use Rattle.gfx_clear_runs.proofs.Spelled.{spelled_runs}
use Rattle.gfx_clear_runs.proofs.laws.spelled_runs_are_read.Goals as goal

pub returns : goal.returns
returns c = spelled_runs
