use Rattle.gfx_segment.proofs.GivenLemmas.{gives_out_next}
use Rattle.gfx_segment.proofs.splitter.Splitter.next_message.Goals as goal

pub returns-clause-law : goal.returns-clause-law
returns-clause-law c = gives_out_next _ c.take_message.result c.args.self.now c.take_message.new.self c.take_message.ensures.exact
