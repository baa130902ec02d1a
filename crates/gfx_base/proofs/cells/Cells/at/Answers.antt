use Rattle.std.proofs.Common.{arith}
use Rattle.gfx_base.proofs.Blocks.{IsPlaced, cell_in, placed_in}
use Rattle.gfx_base.proofs.cells.Cells.at.Goals as goal

placed : (c : goal.After-from-columns) → IsPlaced c.from-columns.result c.self.inside.rows c.args.place
placed c =
    placed_in c.self.inside.left c.self.inside.top c.self.inside.columns c.self.inside.rows c.from-columns.result c.args.place c.args.self.now c.self.view_is
    c.from-columns.ensures c.requires

pub nonzero_rem-result : goal.nonzero_rem-result
nonzero_rem-result c = (placed c).some

pub overflow_cast-result : goal.overflow_cast-result
overflow_cast-result c = omega (arith, (placed c).across)

pub overflow_add-result : goal.overflow_add-result
overflow_add-result c = omega (arith, (placed c).across)

pub nonzero_div-result : goal.nonzero_div-result
nonzero_div-result c = (placed c).some

pub overflow_cast-result-2 : goal.overflow_cast-result-2
overflow_cast-result-2 c = omega (arith, (placed c).down)

pub overflow_add-result-2 : goal.overflow_add-result-2
overflow_add-result-2 c = omega (arith, (placed c).down)

pub returns-clause-value : goal.returns-clause-value
returns-clause-value c =
    cell_in c.self.inside.left c.self.inside.top c.self.inside.columns c.self.inside.rows c.from-columns.result c.args.place c.args.self.now c.self.view_is
    c.from-columns.ensures c.requires

pub returns-clause-across : goal.returns-clause-across
returns-clause-across c = omega (arith, (placed c).across)

pub returns-clause-down : goal.returns-clause-down
returns-clause-down c = omega (arith, (placed c).down)
