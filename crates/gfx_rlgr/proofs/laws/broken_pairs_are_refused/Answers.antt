use Rattle.gfx_rlgr.proofs.Refused.{broken-refused}
use Rattle.gfx_rlgr.proofs.laws.broken_pairs_are_refused.Goals as goal

pub returns : goal.returns
returns c = broken-refused
