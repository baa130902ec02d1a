use Rattle.std.proofs.Common.{◌+◌, ◌∙◌}
use Rattle.gfx_clear_bands.specs.Writing.{column, output}
use Rattle.gfx_clear_bands.proofs.Outputs.{columns_start, columns_next, columns_done, column_written}
use Rattle.gfx_clear_bands.proofs.writing.write_columns.Goals as goal

pub columns-init : goal.columns-init
columns-init c = columns_start c.args.width c.args.pixels.now c.args.background c.args.rows c.args.start (output c.args.store.now c.args.out.now)

pub columns-preserved : goal.columns-preserved
columns-preserved c =
    let mid = output c.columns.store c.columns.out in
    let new = output c.write_column.new.store c.write_column.new.out in
    let due = column c.args.width c.args.pixels.now (c.args.start + c.columns.x) c.args.rows in
    columns_next c.args.width c.args.pixels.now c.args.background c.args.rows c.args.start c.columns.x (output c.args.store.now c.args.out.now) mid new c.columns-test.true c.columns.invariant
    (column_written mid new c.args.background c.as_slice.result.now due
    (c.as_slice.ensures.value ∙ c.column_at-column.ensures.column ∙ (λ i. column (c.from.ensures i) c.args.pixels.now (c.args.start + c.from-in-columns.ensures i) c.args.rows))
    c.in-Ok.ensures.bytes c.in-Ok.ensures.store)

pub returns-clause-ok : goal.returns-clause-ok
returns-clause-ok c =
    columns_done c.args.width c.args.pixels.now c.args.background c.args.rows c.args.start c.columns.x (output c.args.store.now c.args.out.now) (output c.columns.store c.columns.out) c.columns-test.false c.columns.invariant
