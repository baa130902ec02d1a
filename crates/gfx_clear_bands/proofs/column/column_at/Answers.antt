use Rattle.std.proofs.Common.{◌+◌, ◌-◌, ◌++◌, ap, ◌∙◌, arith}
use Rattle.gfx_clear_bands.specs.Writing.{column}
use Rattle.gfx_clear_bands.proofs.Shorts.{column_step, column_none}
use Rattle.gfx_clear_bands.proofs.column.column_at.Goals as goal

pub rows-preserved : goal.rows-preserved
rows-preserved c = record {
  at = omega (arith, c.rows.invariant.at);
  len = c.push.ensures.len ∙ ap (λ n. n + 1) c.rows.invariant.len;
  same = ap (λ z. z ++ column c.args.width c.args.pixels.now (c.rows.at + c.args.width) (c.args.rows - (c.rows.row + 1))) c.push.ensures.items
      ∙ column_step c.args.width c.args.pixels.now c.rows.at c.args.rows c.rows.row c.rows.found.items _ c.rows-test.true c.rows.invariant.same;
}

pub returns-clause-column : goal.returns-clause-column
returns-clause-column c = column_none c.args.width c.args.pixels.now c.rows.at c.args.rows c.rows.row c.rows.found.items c.rows-test.false ∙ c.rows.invariant.same
