use Rattle.std.proofs.Common.{arith}
use Rattle.gfx_surface.proofs.Runs.{read_row_more}
use Rattle.gfx_surface.proofs.reading.read_rect.Goals as goal

pub rows-preserved : goal.rows-preserved
rows-preserved c =
    read_row_more c.args.grid.width c.args.grid.height c.rows.i _ _ c.args.rect c.args.cells.now c.args.out.now c.rows.out c.read_into.new.out
    c.requires.inside c.requires.whole c.rows.auto.out (omega arith) (cc) (cc) c.rows.invariant c.read_into.ensures
