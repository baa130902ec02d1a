use Rattle.gfx_clear_runs.proofs.Spelled.{read_runs}
use Rattle.gfx_clear_runs.proofs.laws.read_runs_are_spelled.Goals as goal

pub returns : goal.returns
returns c = read_runs
