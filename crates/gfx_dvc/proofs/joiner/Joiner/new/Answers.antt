use Rattle.gfx_dvc.proofs.JoinedLemmas.{joined_none}
use Rattle.gfx_dvc.proofs.joiner.Joiner.new.Goals as goal

pub returns-clause-law : goal.returns-clause-law
returns-clause-law c = joined_none
