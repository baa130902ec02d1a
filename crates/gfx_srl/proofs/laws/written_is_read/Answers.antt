use Rattle.gfx_srl.proofs.OneWriting.{written-read}
use Rattle.gfx_srl.proofs.laws.written_is_read.Goals as goal

pub returns : goal.returns
returns c pairs bytes written = written-read pairs bytes written
