use Rattle.gfx_clear_runs.proofs.Writings.{one_form}
use Rattle.gfx_clear_runs.proofs.laws.one_runs_form.Goals as goal

pub returns : goal.returns
returns c = one_form
