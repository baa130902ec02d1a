use Rattle.gfx_rlgr.proofs.PairBound.{short-bytes}
use Rattle.gfx_rlgr.proofs.laws.codes_are_short.Goals as goal

pub returns : goal.returns
returns c = short-bytes
