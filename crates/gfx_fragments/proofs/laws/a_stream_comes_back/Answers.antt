use Rattle.gfx_fragments.proofs.LawLemmas.{writes_each, comes_back}
use Rattle.gfx_fragments.proofs.laws.a_stream_comes_back.Goals as goal

pub returns-clause-each : goal.returns-clause-each
returns-clause-each c = writes_each

pub returns-clause-whole : goal.returns-clause-whole
returns-clause-whole c = comes_back
