use Rattle.std.proofs.Common.{arith}
use Rattle.gfx_surface.proofs.Runs.{moved_left_more}
use Rattle.gfx_surface.proofs.moves.move_left.Goals as goal

pub runs-preserved : goal.runs-preserved
runs-preserved c = (
  omega arith,
  moved_left_more c.args.grid.width c.args.grid.height c.args.left c.args.top c.args.x c.args.y c.runs.done c.min-count.result _ _
      c.run_at-start.result c.run_at-place.result c.args.cells.now c.runs.cells c.copy_within.new.self
      (omega (arith, c.requires.full, c.runs.auto.cells)) (omega arith) c.requires.leftward
      (omega arith) (omega arith) c.requires.from_row (omega arith) c.run_at-start.ensures.at
      (omega arith) (omega arith) c.requires.row (omega arith) c.run_at-place.ensures.at
      c.runs.invariant.1 c.copy_within.ensures.by_index,
)
