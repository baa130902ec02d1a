use Rattle.gfx_clear_runs.proofs.Spelled.{read_segments}
use Rattle.gfx_clear_runs.proofs.laws.read_segments_are_spelled.Goals as goal

pub returns : goal.returns
returns c = read_segments
