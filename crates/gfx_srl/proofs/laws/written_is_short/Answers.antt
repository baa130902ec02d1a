use Rattle.gfx_srl.proofs.Bound.{short-code}
use Rattle.gfx_srl.proofs.laws.written_is_short.Goals as goal

pub returns : goal.returns
returns c pairs bytes written narrow = short-code pairs bytes written narrow
