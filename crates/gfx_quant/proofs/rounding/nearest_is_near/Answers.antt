use Rattle.gfx_quant.proofs.Nearest.{nearest_near}
use Rattle.gfx_quant.proofs.rounding.nearest_is_near.Goals as goal

pub returns : goal.returns
returns c = nearest_near c.args.band c.args.c c.args.q c.requires.low
