use Rattle.gfx_rlgr.proofs.Unique as unique
use Rattle.gfx_rlgr.proofs.laws.one_meaning.Goals as goal

pub returns : goal.returns
returns c = unique.one-answer
