use Rattle.gfx_rlgr.proofs.OneWriting as writing
use Rattle.gfx_rlgr.proofs.laws.one_writing.Goals as goal

pub returns : goal.returns
returns c = writing.one_writing
