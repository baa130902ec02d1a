use Rattle.gfx_rlgr.proofs.Writes.{always-encoded, encoded-bytes, encodes-only}
use Rattle.gfx_rlgr.proofs.laws.what_is_written.Goals as goal

pub returns-clause-written : goal.returns-clause-written
returns-clause-written c = always-encoded

pub returns-clause-bytes : goal.returns-clause-bytes
returns-clause-bytes c = encoded-bytes

pub returns-clause-only : goal.returns-clause-only
returns-clause-only c = encodes-only
