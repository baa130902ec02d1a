use Rattle.gfx_clear_runs.proofs.Spelled.{spelled_segments}
use Rattle.gfx_clear_runs.proofs.laws.spelled_segments_are_read.Goals as goal

pub returns : goal.returns
returns c = spelled_segments
