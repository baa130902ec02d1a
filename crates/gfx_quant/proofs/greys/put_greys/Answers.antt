use Rattle.std.proofs.Common.{pos, arith}
use Rattle.gfx_dwt.specs.Ranges.{at}
use Rattle.gfx_quant.specs.Colour.{colour_of}
use Rattle.gfx_quant.proofs.Rests.{more_rows}
use Rattle.gfx_quant.proofs.greys.put_greys.Goals as goal

pub loop-number-preserved : goal.loop-number-preserved
loop-number-preserved c =
    (omega arith, more_rows (λ k. colour_of (at c.args.y.now k) (pos 0) (pos 0)) c.loop-number.number c.loop-number.out _ c.put_grey_row.ensures.row c.put_grey_row.ensures.before c.loop-number.invariant.1)
