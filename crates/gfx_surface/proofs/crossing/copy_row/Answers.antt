use Rattle.std.proofs.Common.{refl, arith}
use Rattle.gfx_surface.proofs.Runs.{crossed_more}
use Rattle.gfx_surface.proofs.crossing.copy_row.Goals as goal

pub runs-preserved : goal.runs-preserved
runs-preserved c = (
  omega arith,
  crossed_more c.args.grid.width c.args.grid.height c.args.from_grid.width c.args.from_grid.height c.args.at.x c.args.at.y c.args.to.x c.args.to.y c.runs.done c.min-count.result _ _
      c.run_at-start.result c.run_at-place.result c.args.format c.args.from.now _ _ c.runs.cells c.copy_run.new.pixels
      c.requires.from_full (omega (arith, c.requires.full, c.runs.auto.cells)) (omega arith)
      (omega arith) (omega arith) c.requires.from_row (omega arith) c.run_at-start.ensures.at
      (omega arith) (omega arith) c.requires.row (omega arith) c.run_at-place.ensures.at
      refl c.runs.invariant.1 c.copy_run.ensures,
)
