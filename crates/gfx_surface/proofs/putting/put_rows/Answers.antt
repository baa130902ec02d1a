use Rattle.std.proofs.Common.{refl, arith}
use Rattle.gfx_surface.proofs.Runs.{put_row_more}
use Rattle.gfx_surface.proofs.putting.put_rows.Goals as goal

pub rows-preserved : goal.rows-preserved
rows-preserved c =
    put_row_more c.args.grid.width c.args.grid.height c.rows.i _ _ c.args.rect c.args.format c.args.from.now _ c.args.cells.now c.rows.cells c.put_row.new.cells
    c.requires.inside c.requires.whole (omega arith) (cc) (cc) refl c.rows.invariant c.put_row.ensures
