use Rattle.gfx_state.proofs.Runs.{eats-append}
use Rattle.gfx_state.proofs.laws.pieces_are_the_whole.Goals as goal

pub returns : goal.returns
returns c = eats-append
