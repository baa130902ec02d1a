use Rattle.gfx_fragments.proofs.LawLemmas.{writes_joined, names_refused, any_cutting}
use Rattle.gfx_fragments.proofs.laws.any_cutting_is_joined.Goals as goal

pub returns-clause-joined : goal.returns-clause-joined
returns-clause-joined c = writes_joined

pub returns-clause-cutting : goal.returns-clause-cutting
returns-clause-cutting c = any_cutting

pub returns-clause-refused : goal.returns-clause-refused
returns-clause-refused c = names_refused
