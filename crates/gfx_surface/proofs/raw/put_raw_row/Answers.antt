use Rattle.std.proofs.Common.{refl, arith}
use Rattle.gfx_surface.proofs.Runs.{raw_more}
use Rattle.gfx_surface.proofs.raw.put_raw_row.Goals as goal

pub runs-preserved : goal.runs-preserved
runs-preserved c = (
  omega arith,
  raw_more c.args.grid.width c.args.grid.height c.args.x c.args.y c.runs.done c.min-count.result _ c.run_at-at.result _ c.args.pixels c.args.format c.args.bytes.now _ _ c.runs.cells c.put_run.new.pixels
      (omega (arith, c.requires.full, c.runs.auto.cells)) (omega arith) (omega arith) c.requires.row (omega arith) c.run_at-at.ensures.at (omega arith) c.requires.whole refl refl c.runs.invariant.1 c.put_run.ensures,
)
