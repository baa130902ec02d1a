use Rattle.gfx_clear_runs.proofs.Writings.{read_back}
use Rattle.gfx_clear_runs.proofs.laws.runs_read_back.Goals as goal

pub returns : goal.returns
returns c = read_back
