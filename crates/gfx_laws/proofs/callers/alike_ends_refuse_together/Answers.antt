use Rattle.gfx_laws.proofs.Refused.{refuse_together, same_limits}
use Rattle.gfx_laws.proofs.callers.alike_ends_refuse_together.Goals as goal

pub returns-clause-refuse : goal.returns-clause-refuse
returns-clause-refuse c = refuse_together

pub returns-clause-limits : goal.returns-clause-limits
returns-clause-limits c = same_limits
