use Rattle.gfx_segment.proofs.GivenLemmas.{gives_out_next}
use Rattle.gfx_segment.proofs.splitter.Splitter.next_raw.Goals as goal

pub returns-clause-law : goal.returns-clause-law
returns-clause-law c = gives_out_next _ c.take_raw.result c.args.self.now c.take_raw.new.self c.take_raw.ensures.exact
