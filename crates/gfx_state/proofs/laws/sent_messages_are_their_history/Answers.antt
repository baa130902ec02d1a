use Rattle.gfx_state.proofs.Effects.{applied_in-sent, ended-sent, ends_of-append}
use Rattle.gfx_state.proofs.laws.sent_messages_are_their_history.Goals as goal

pub returns-clause-applied : goal.returns-clause-applied
returns-clause-applied c = applied_in-sent

pub returns-clause-ended : goal.returns-clause-ended
returns-clause-ended c = ended-sent

pub returns-clause-more : goal.returns-clause-more
returns-clause-more c = ends_of-append
