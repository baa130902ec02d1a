use Rattle.std.proofs.Common.{refl, arith}
use Rattle.gfx_surface.proofs.Runs.{raw_row_more}
use Rattle.gfx_surface.proofs.raw.put_raw.Goals as goal

pub rows-preserved : goal.rows-preserved
rows-preserved c =
    raw_row_more c.args.grid.width c.args.grid.height c.rows.i _ _ c.args.rect c.args.format c.args.bytes.now _ c.args.cells.now c.rows.cells c.put_raw_row.new.cells
    c.requires.inside c.requires.whole (omega arith) (cc) (cc) refl c.rows.invariant c.put_raw_row.ensures
