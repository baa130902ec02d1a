use Rattle.gfx_prog_decode.proofs.Bases.{sums_fit}
use Rattle.gfx_prog_decode.proofs.coding.positions.Goals as goal

pub returns-clause-fit : goal.returns-clause-fit
returns-clause-fit c = sums_fit c.args.base.now.values c.args.left.now.values c.requires c.args.base.now.nibbles c.args.left.now.nibbles
