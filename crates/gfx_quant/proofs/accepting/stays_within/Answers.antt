use Rattle.std.proofs.Common.{refl, arith}
use Rattle.gfx_quant.specs.Setting.{all_below}
use Rattle.gfx_quant.proofs.Accepted.{one-more, stays-whole}
use Rattle.gfx_quant.proofs.accepting.stays_within.Goals as goal

pub loop-band-init : goal.loop-band-init
unfolding all_below
loop-band-init c = refl

pub loop-band-preserved : goal.loop-band-preserved
loop-band-preserved c = one-more c.loop-band.band _ c.loop-band.fine c.is_within-fine.result c.loop-band.invariant c.is_within-fine.ensures

pub returns : goal.returns
returns c = stays-whole c.args.base.now c.args.level.now c.loop-band.band c.loop-band.fine c.loop-band.invariant (omega arith)
