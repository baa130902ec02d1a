use Rattle.std.proofs.Common.{◌∙◌, ap, arith}
use Rattle.gfx_quant.specs.Setting.{of_level}
use Rattle.gfx_quant.proofs.Accepted.{left-listed, left-behind}
use Rattle.gfx_tile_make.proofs.levels.left_out.Goals as goal

pub returns-then-index-levels : goal.returns-then-index-levels
returns-then-index-levels c =
    c.of_level.ensures ∙ ap (of_level c.args.component) c.index-levels-index.is
    ∙ left-listed c.args.component c.args.levels.now c.args.index c.index-levels-index.result c.if-index-levels.true

pub returns : goal.returns
returns c = left-behind c.args.component c.args.levels.now c.args.index (omega arith)
