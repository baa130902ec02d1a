use Rattle.std.proofs.Common.{◌*◌, pos, arith}
use Rattle.gfx_dwt.proofs.Blocks.{block_more}
use Rattle.gfx_dwt.proofs.noughts.noughts_before.Goals as goal

pub loop-block-preserved : goal.loop-block-preserved
loop-block-preserved c = λ k h. block_more (pos 0) c.args.plane.now (64 * c.loop-block.block) _ (omega arith) c.if-not-are_same.ensures c.loop-block.invariant k (omega arith)
