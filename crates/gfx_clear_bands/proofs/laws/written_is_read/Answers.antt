use Rattle.gfx_clear_bands.proofs.ReadAgain.{reads_back}
use Rattle.gfx_clear_bands.proofs.laws.written_is_read.Goals as goal

pub returns : goal.returns
returns c = reads_back
