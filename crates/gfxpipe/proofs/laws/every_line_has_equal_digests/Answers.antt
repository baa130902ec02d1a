use Rattle.gfxpipe.proofs.Agreeing.{every_line}
use Rattle.gfxpipe.proofs.laws.every_line_has_equal_digests.Goals as goal

pub returns : goal.returns
returns c = every_line
