use Rattle.std.proofs.Common.{refl, arith}
use Rattle.gfx_surface.proofs.Runs.{read_more}
use Rattle.gfx_surface.proofs.reading.read_row.Goals as goal

pub runs-preserved : goal.runs-preserved
runs-preserved c = (
  omega (arith, c.copy_run.auto.pixels, c.runs.invariant.0),
  read_more c.args.grid.width c.args.grid.height c.args.x c.args.y c.runs.done c.min-count.result _ c.run_at-at.result c.args.cells.now _ c.runs.out c.copy_run.new.pixels
      c.requires.full (omega arith) (omega arith) (omega arith) c.requires.row (omega arith) c.run_at-at.ensures.at (omega arith) refl c.runs.invariant.1 c.copy_run.ensures,
)
