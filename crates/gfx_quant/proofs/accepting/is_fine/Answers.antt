use Rattle.std.proofs.Common.{◌∙◌, arith}
use Rattle.gfx_quant.specs.Quant.{is_base}
use Rattle.gfx_quant.specs.Setting.{all_below}
use Rattle.gfx_quant.proofs.Accepted.{fine-more, fine-whole, and-true}
use Rattle.gfx_quant.proofs.accepting.is_fine.Goals as goal

pub loop-index-init : goal.loop-index-init
unfolding all_below
loop-index-init c = c.all_at_least_base-fine.ensures ∙ and-true (is_base c.args.base.now.values)

pub loop-index-preserved : goal.loop-index-preserved
loop-index-preserved c =
    fine-more c.args.component c.args.base.now.values c.args.levels.now c.loop-index.index c.loop-index.fine c.is_level_fine-fine.result c.loop-index.invariant c.is_level_fine-fine.ensures

pub returns : goal.returns
returns c = fine-whole c.args.component c.args.base.now.values c.args.levels.now c.loop-index.index c.loop-index.fine c.loop-index.invariant (omega arith)
