use Rattle.gfx_laws.proofs.Calling.{draining_is_turns}
use Rattle.gfx_laws.proofs.callers.draining_is_turns.Goals as goal

pub returns : goal.returns
returns c = draining_is_turns
