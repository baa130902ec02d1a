use Rattle.gfx_clear_runs.proofs.Segmented.{rlex_read_back}
use Rattle.gfx_clear_runs.proofs.laws.rlex_reads_back.Goals as goal

pub returns : goal.returns
returns c = rlex_read_back
