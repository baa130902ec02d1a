use Rattle.std.proofs.Common.{refl, arith}
use Rattle.gfx_quant.specs.Setting.{all_below}
use Rattle.gfx_quant.proofs.Accepted.{one-more, falls-whole}
use Rattle.gfx_script_text.proofs.levels.falls_well.Goals as goal

pub bands-init : goal.bands-init
unfolding all_below
bands-init c = refl

pub bands-preserved : goal.bands-preserved
bands-preserved c = one-more c.bands.band _ c.bands.fine c.is_fall-fine.result c.bands.invariant c.is_fall-fine.ensures

pub returns : goal.returns
returns c = falls-whole c.args.level.now c.args.next.now c.bands.band c.bands.fine c.bands.invariant (omega arith)
