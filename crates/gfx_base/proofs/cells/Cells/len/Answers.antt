use Rattle.std.proofs.Common.{◌*◌, ◌∙◌, ap, length, arith}
use Rattle.gfx_base.proofs.Blocks.{length-block}
use Rattle.gfx_base.proofs.cells.Cells.len.Goals as goal

pub returns : goal.returns
returns c =
    (λ i. c.from.ensures i * c.from-2.ensures i)
    ∙ omega (arith, length-block c.self.inside.left c.self.inside.top c.self.inside.columns c.self.inside.rows)
    ∙ ap length c.self.view_is
