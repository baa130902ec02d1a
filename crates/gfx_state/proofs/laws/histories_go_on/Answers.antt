use Rattle.gfx_state.proofs.Effects.{history-append, applied_in-append, ended-append, history_refused}
use Rattle.gfx_state.proofs.Leading.{leads-history}
use Rattle.gfx_state.proofs.laws.histories_go_on.Goals as goal

pub returns-clause-pieces : goal.returns-clause-pieces
returns-clause-pieces c = history-append

pub returns-clause-applied : goal.returns-clause-applied
returns-clause-applied c = applied_in-append

pub returns-clause-ended : goal.returns-clause-ended
returns-clause-ended c = ended-append

pub returns-clause-refused : goal.returns-clause-refused
returns-clause-refused c = history_refused

pub returns-clause-leads : goal.returns-clause-leads
returns-clause-leads c = leads-history
