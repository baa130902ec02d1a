use Rattle.gfx_rlgr.proofs.Says.{always-decodes, decodes-only}
use Rattle.gfx_rlgr.proofs.laws.what_bytes_say.Goals as goal

pub returns-clause-says : goal.returns-clause-says
returns-clause-says c = always-decodes

pub returns-clause-only : goal.returns-clause-only
returns-clause-only c = decodes-only
