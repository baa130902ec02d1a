use Rattle.gfx_dvc.proofs.RecordingLemmas.{recorded_is_whole, cut_is_short}
use Rattle.gfx_dvc.proofs.laws.a_recorded_fragment_is_whole.Goals as goal

pub returns-clause-whole : goal.returns-clause-whole
returns-clause-whole c = recorded_is_whole

pub returns-clause-cut : goal.returns-clause-cut
returns-clause-cut c = cut_is_short
