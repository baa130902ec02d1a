use Rattle.std.proofs.Common.{◌∙◌, ap, sym, arith}
use Rattle.gfx_dwt.specs.Joining.{behind}
use Rattle.gfx_dwt.specs.Samples.{column}
use Rattle.gfx_dwt.proofs.Edges.{edged_inside, edged_behind}
use Rattle.gfx_dwt.proofs.narrow.grid.narrow_edge_row.Goals as goal

pub returns-then-index-size-clause-each : goal.returns-then-index-size-clause-each
returns-then-index-size-clause-each c = λ k h.
    c.narrow_row.ensures.each k h ∙ sym (edged_inside c.args.transform c.args.level (column c.args.width c.args.high.now k) c.args.index (omega arith))

pub returns-else-index-size-clause-each : goal.returns-else-index-size-clause-each
returns-else-index-size-clause-each c = λ k h.
    let e = c.high_size-size.ensures in
    let last = c.narrow_row-else-index-size.ensures.each k h in
    c.row_behind.ensures.each k ∙ ap (behind c.args.transform c.args.level) (rw e at last)
    ∙ sym (edged_behind c.args.transform c.args.level (column c.args.width c.args.high.now k) c.args.index (omega arith))

pub returns-else-index-size-clause-within : goal.returns-else-index-size-clause-within
returns-else-index-size-clause-within c =
    c.row_behind.ensures.within 8191 (c.narrow_row-else-index-size.ensures.within 8191 c.requires.high)
