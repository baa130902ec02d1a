use Rattle.gfx_segment.proofs.CuttingLemmas.{any_cutting}
use Rattle.gfx_segment.proofs.laws.any_cutting_gives_the_same.Goals as goal

pub returns : goal.returns
returns c = any_cutting
