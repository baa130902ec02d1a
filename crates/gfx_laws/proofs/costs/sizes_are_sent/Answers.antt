use Rattle.gfx_laws.proofs.Costing.{are-sent}
use Rattle.gfx_laws.proofs.costs.sizes_are_sent.Goals as goal

pub returns : goal.returns
returns c = are-sent
