use Rattle.gfx_segment.proofs.WholeLemmas.{are_given, others_are_bad}
use Rattle.gfx_segment.proofs.laws.whole_messages_are_given.Goals as goal

pub returns-clause-given : goal.returns-clause-given
returns-clause-given c = are_given

pub returns-clause-others : goal.returns-clause-others
returns-clause-others c = others_are_bad
