use Rattle.std.proofs.Common.{arith}
use Rattle.gfx_surface.proofs.Runs.{moved_down_more, moved_down_all}
use Rattle.gfx_surface.proofs.moves.move_down.Goals as goal

pub rows-preserved : goal.rows-preserved
rows-preserved c = (
  omega arith,
  moved_down_more c.args.grid.width c.args.grid.height _ c.rows.i _ c.args.rect c.args.to c.args.cells.now c.rows.cells c.move_row.new.cells
      c.requires.inside c.requires.down (omega arith) c.rows.invariant.0 (cc) c.rows.invariant.1 c.move_row.ensures,
)

pub returns : goal.returns
returns c = moved_down_all c.args.grid.width c.args.grid.height c.rows.i c.args.rect c.args.to c.args.cells.now c.rows.cells (omega arith) c.rows.invariant.1
