use Rattle.std.proofs.Common.{refl, arith}
use Rattle.gfx_quant.specs.Setting.{all_below}
use Rattle.gfx_quant.proofs.Accepted.{one-more, falls-whole}
use Rattle.gfx_quant.proofs.accepting.falls_well.Goals as goal

pub loop-band-init : goal.loop-band-init
unfolding all_below
loop-band-init c = refl

pub loop-band-preserved : goal.loop-band-preserved
loop-band-preserved c = one-more c.loop-band.band _ c.loop-band.fine c.is_fall-fine.result c.loop-band.invariant c.is_fall-fine.ensures

pub returns : goal.returns
returns c = falls-whole c.args.level.now c.args.next.now c.loop-band.band c.loop-band.fine c.loop-band.invariant (omega arith)
