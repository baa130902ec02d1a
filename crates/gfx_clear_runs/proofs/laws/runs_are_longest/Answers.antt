use Rattle.gfx_clear_runs.proofs.Writings.{form_written}
use Rattle.gfx_clear_runs.proofs.laws.runs_are_longest.Goals as goal

pub returns : goal.returns
returns c = form_written
