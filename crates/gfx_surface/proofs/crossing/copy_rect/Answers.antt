use Rattle.gfx_surface.proofs.Runs.{crossed_row_more}
use Rattle.gfx_surface.proofs.crossing.copy_rect.Goals as goal

pub rows-preserved : goal.rows-preserved
rows-preserved c =
    crossed_row_more c.args.grid.width c.args.grid.height c.args.from_grid.width c.rows.i _ c.args.rect c.args.to c.args.format c.args.from.now c.args.cells.now c.rows.cells c.copy_row.new.cells
    (cc) c.rows.invariant c.copy_row.ensures
