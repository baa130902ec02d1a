use Rattle.std.proofs.Common.{arith}
use Rattle.gfx_dwt.specs.Ranges.{at}
use Rattle.gfx_quant.specs.Colour.{colour_of}
use Rattle.gfx_quant.proofs.Rests.{more_rows}
use Rattle.gfx_quant.proofs.rows.to_colours_narrow.Goals as goal

pub loop-number-preserved : goal.loop-number-preserved
loop-number-preserved c =
    (omega arith, more_rows (λ k. colour_of (at c.args.y.now k) (at c.args.cb.now k) (at c.args.cr.now k)) c.loop-number.number c.loop-number.out _ c.put_row.ensures.row c.put_row.ensures.before c.loop-number.invariant.1)
