use Rattle.std.proofs.lemmas.Result.{on_ok_weaker}
use Rattle.gfx_segment.specs.Whole.{streamed}
use Rattle.gfx_segment.proofs.GivenLemmas.{takes_in_fed}
use Rattle.gfx_segment.proofs.splitter.Splitter.feed_whole.Goals as goal

pub returns-clause-law : goal.returns-clause-law
returns-clause-law c = on_ok_weaker c.take_whole.result (takes_in_fed c.args.self.now c.take_whole.new.self (streamed c.args.message.now)) c.take_whole.ensures.ok
