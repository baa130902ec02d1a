use Rattle.gfx_bits.proofs.Showing.{shows-behind}
use Rattle.gfx_bits.proofs.word.word_behind.Goals as goal

pub returns : goal.returns
returns c shown bits few high is = shows-behind shown c.args.n c.args.word bits few high is
