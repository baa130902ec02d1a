use Rattle.gfx_planner.proofs.EndedTiles.{all_ended, next_ended}
use Rattle.gfx_planner.proofs.passes.end_in_each.Goals as goal

pub rects-preserved : goal.rects-preserved
rects-preserved c = next_ended c.args.passes.now c.rects.passes c.end_in.new.self c.args.id c.args.rects.now c.rects.rect-index _ c.rects-test.true c.end_in.ensures c.rects.invariant

pub returns : goal.returns
returns c = all_ended c.args.passes.now c.rects.passes c.args.id c.args.rects.now c.rects.rect-index c.rects-test.false c.rects.invariant
