use Rattle.std.proofs.Common.{◌+◌, arith}
use Rattle.gfx_tile_state.proofs.PlaceLists.{nought-listed}
use Rattle.gfx_tile_state.proofs.upgrading.sifting.sift_block.Goals as goal

pub loop-ahead-preserved : goal.loop-ahead-preserved
loop-ahead-preserved c =
    let i = c.args.place + c.loop-ahead.ahead in
    nought-listed c.args.plane.now c.args.from i (c.args.place + (c.loop-ahead.ahead + 1)) (c.args.count + c.loop-ahead.ahead) (c.args.count + (c.loop-ahead.ahead + 1)) c.loop-ahead.noughts c.args.others.now (omega arith)
    (omega arith) (c.are_blank.ensures c.if-not-are_blank.false i (omega arith) (omega arith)) (omega arith) (omega arith) c.loop-ahead.invariant
