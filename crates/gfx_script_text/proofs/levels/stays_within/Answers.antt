use Rattle.std.proofs.Common.{refl, arith}
use Rattle.gfx_quant.specs.Setting.{all_below}
use Rattle.gfx_quant.proofs.Accepted.{one-more, stays-whole}
use Rattle.gfx_script_text.proofs.levels.stays_within.Goals as goal

pub bands-init : goal.bands-init
unfolding all_below
bands-init c = refl

pub bands-preserved : goal.bands-preserved
bands-preserved c = one-more c.bands.band _ c.bands.fine c.is_sum-fine.result c.bands.invariant c.is_sum-fine.ensures

pub returns : goal.returns
returns c = stays-whole c.args.base.now c.args.level.now c.bands.band c.bands.fine c.bands.invariant (omega arith)
