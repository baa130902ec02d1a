use Rattle.gfx_srl.proofs.Writes.{always-written, written-fits, written-bytes, written-only}
use Rattle.gfx_srl.proofs.laws.what_is_written.Goals as goal

pub returns-clause-written : goal.returns-clause-written
returns-clause-written c = always-written

pub returns-clause-fits : goal.returns-clause-fits
returns-clause-fits c = written-fits

pub returns-clause-bytes : goal.returns-clause-bytes
returns-clause-bytes c = written-bytes

pub returns-clause-only : goal.returns-clause-only
returns-clause-only c = written-only
