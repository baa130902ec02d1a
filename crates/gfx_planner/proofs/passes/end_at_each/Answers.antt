use Rattle.gfx_planner.proofs.EndedTiles.{all_ended_at, fits_at_point, next_ended_at}
use Rattle.gfx_planner.proofs.passes.end_at_each.Goals as goal

pub moved_to-requires-clause-columns : goal.moved_to-requires-clause-columns
moved_to-requires-clause-columns c = (fits_at_point c.args.rect c.args.points.now c.points.point-index _ c.requires c.points-test.true).right

pub moved_to-requires-clause-rows : goal.moved_to-requires-clause-rows
moved_to-requires-clause-rows c = (fits_at_point c.args.rect c.args.points.now c.points.point-index _ c.requires c.points-test.true).bottom

pub points-preserved : goal.points-preserved
points-preserved c =
    next_ended_at c.args.passes.now c.points.passes c.end_in.new.self c.args.id c.args.rect c.moved_to.result c.args.points.now c.points.point-index _ c.points-test.true c.moved_to.ensures c.end_in.ensures c.points.invariant

pub returns : goal.returns
returns c = all_ended_at c.args.passes.now c.points.passes c.args.id c.args.rect c.args.points.now c.points.point-index c.points-test.false c.points.invariant
