use Rattle.std.proofs.Common.{arith}
use Rattle.gfx_clear.specs.State.{fresh}
use Rattle.gfx_estimate.proofs.Streams.{residual_size}
use Rattle.gfx_estimate.proofs.sizes.residual_size.Goals as goal

pub returns : goal.returns
returns c = omega (arith, residual_size fresh c.args.picture.now, c.requires.runs)
