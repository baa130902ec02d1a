use Rattle.std.proofs.Common.{arith}
use Rattle.gfx_surface.proofs.Runs.{moved_up_more, moved_up_all}
use Rattle.gfx_surface.proofs.moves.move_up.Goals as goal

pub rows-preserved : goal.rows-preserved
rows-preserved c =
    moved_up_more c.args.grid.width c.args.grid.height c.rows.i _ c.args.rect c.args.to c.args.cells.now c.rows.cells c.move_row.new.cells
    c.requires.inside c.requires.up (omega arith) (cc) c.rows.invariant c.move_row.ensures

pub returns : goal.returns
returns c = moved_up_all c.args.grid.width c.args.grid.height c.rows.i c.args.rect c.args.to c.args.cells.now c.rows.cells (omega arith) c.rows.invariant
