use Rattle.gfx_segment.proofs.ReadBackLemmas.{front-prefixed, front_prefixed_cut}
use Rattle.gfx_segment.proofs.laws.a_prefixed_message_is_whole.Goals as goal

pub returns-clause-whole : goal.returns-clause-whole
returns-clause-whole c = λ message more some most. front-prefixed message more (record { some = some; most = most })

pub returns-clause-short : goal.returns-clause-short
returns-clause-short c = λ message start rest some most cut left. front_prefixed_cut message start rest (record { some = some; most = most }) cut left
