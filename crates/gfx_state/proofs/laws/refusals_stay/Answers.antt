use Rattle.gfx_state.proofs.Runs.{eats_refused}
use Rattle.gfx_state.proofs.laws.refusals_stay.Goals as goal

pub returns : goal.returns
returns c = λ run r bytes refused. eats_refused run r bytes refused
