use Rattle.std.proofs.lemmas.Result.{on_ok_weaker}
use Rattle.gfx_segment.proofs.GivenLemmas.{takes_in_fed}
use Rattle.gfx_segment.proofs.splitter.Splitter.feed.Goals as goal

pub returns-clause-law : goal.returns-clause-law
returns-clause-law c = on_ok_weaker c.take_in.result (takes_in_fed c.args.self.now c.take_in.new.self c.args.piece.now) c.take_in.ensures.ok
