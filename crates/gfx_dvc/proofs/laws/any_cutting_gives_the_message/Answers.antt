use Rattle.gfx_dvc.proofs.LeadLemmas.{any_cutting}
use Rattle.gfx_dvc.proofs.OneJoiningLemmas.{cutting_joins}
use Rattle.gfx_dvc.proofs.laws.any_cutting_gives_the_message.Goals as goal

pub returns-clause-given : goal.returns-clause-given
returns-clause-given c = any_cutting

pub returns-clause-joined : goal.returns-clause-joined
returns-clause-joined c = cutting_joins
