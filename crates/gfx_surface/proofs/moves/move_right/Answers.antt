use Rattle.std.proofs.Common.{arith}
use Rattle.gfx_surface.proofs.Runs.{moved_right_more}
use Rattle.gfx_surface.proofs.moves.move_right.Goals as goal

pub runs-preserved : goal.runs-preserved
runs-preserved c = (
  omega arith,
  moved_right_more c.args.grid.width c.args.grid.height c.args.left c.args.top c.args.x c.args.y c.runs.rest _ c.min-count.result c.args.pixels _ _
      c.run_at-start.result c.run_at-place.result c.args.cells.now c.runs.cells c.copy_within.new.self
      (omega (arith, c.requires.full, c.runs.auto.cells)) (omega arith) c.requires.rightward (omega arith) c.runs.invariant.0
      (omega arith) (omega arith) c.requires.from_row (omega arith) c.run_at-start.ensures.at
      (omega arith) (omega arith) c.requires.row (omega arith) c.run_at-place.ensures.at
      c.runs.invariant.1 c.copy_within.ensures.by_index,
)
