use Rattle.std.proofs.Common.{◌∙◌, sym, arith}
use Rattle.gfx_dwt.specs.Samples.{column}
use Rattle.gfx_dwt.proofs.Edges.{high_le_low}
use Rattle.gfx_dwt.proofs.SplitLines.{evens_inside}
use Rattle.gfx_dwt.proofs.SplitSame.{is_high, next_inside}
use Rattle.gfx_dwt.proofs.splitting.high_row.Goals as goal

pub returns : goal.returns
returns c = λ k h.
    let t = c.args.transform in
    let l = c.args.level in
    let line = column c.args.width c.args.source.now k in
    let le = high_le_low t l in
    let size = c.low_size.ensures in
    let next = c.min-next.ensures in
    let right = c.row-right.ensures.each k h in
    is_high t l line c.args.index _ _ _ _ (c.differ.ensures k (omega arith)) (c.row-odd.ensures.each k h)
    (c.row-left.ensures.each k h ∙ sym (evens_inside t l line c.args.index (omega arith)))
    (rw size at (rw next at right) ∙ sym (evens_inside t l line _ (next_inside t l c.args.index c.requires.index)))
