use Rattle.std.proofs.Common.{arith}
use Rattle.gfx_clear.specs.State.{fresh}
use Rattle.gfx_estimate.proofs.Streams.{plain_is}
use Rattle.gfx_estimate.proofs.sizes.plain_size.Goals as goal

pub returns : goal.returns
returns c = omega (arith, plain_is fresh c.args.picture.now, c.area.ensures.area)
