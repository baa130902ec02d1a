use Rattle.gfx_dvc.proofs.JoinedLemmas.{takes_on}
use Rattle.gfx_dvc.proofs.joiner.Joiner.take.Goals as goal

pub returns-clause-law : goal.returns-clause-law
returns-clause-law c = takes_on c.join.result c.args.self.now c.join.new.self c.args.fragment.now c.join.ensures.exact
