use Rattle.std.proofs.Common.{◌∙◌, sym, refl, arith}
use Rattle.gfx_dwt.specs.Samples.{column}
use Rattle.gfx_dwt.proofs.SplitLines.{evens_inside}
use Rattle.gfx_dwt.proofs.SplitSame.{low_of_same, far_low}
use Rattle.gfx_dwt.proofs.splitting.low_row.Goals as goal

pub returns-then-index-width : goal.returns-then-index-width
returns-then-index-width c = λ k h.
    let t = c.args.transform in
    let l = c.args.level in
    let line = column c.args.width c.args.source.now k in
    let first = c.saturating_sub.ensures in
    low_of_same t _ _ _ _ _ _ _ (c.smooth.ensures k (omega arith))
    (c.row.ensures.each k h ∙ sym (evens_inside t l line c.args.index (omega arith)))
    (rw first at (c.edge_row-before.ensures.each k h)) (c.edge_row-here.ensures.each k h)

pub returns-else-index-width : goal.returns-else-index-width
returns-else-index-width c = λ k h.
    let t = c.args.transform in
    let l = c.args.level in
    let w = c.requires.width in
    let line = column c.args.width c.args.source.now k in
    let before = c.row-else-index-width.ensures.each k h in
    let last = c.row-else-index-width-2.ensures.each k h in
    far_low t l line (column c.args.width c.args.high.now k) c.args.index _ c.requires.index (omega arith) (c.extend.ensures k (omega arith) ∙ rw (before, last) (rw w refl))
