use Rattle.gfx_dvc.proofs.JoinedLemmas.{steps_join}
use Rattle.gfx_dvc.proofs.OneJoiningLemmas.{one_joining}
use Rattle.gfx_dvc.proofs.laws.taking_joins.Goals as goal

pub returns-clause-steps : goal.returns-clause-steps
returns-clause-steps c = steps_join

pub returns-clause-only : goal.returns-clause-only
returns-clause-only c = one_joining
