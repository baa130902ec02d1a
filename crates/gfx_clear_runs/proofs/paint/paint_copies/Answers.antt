-- A block is written, or the copies alone.
use Rattle.std.proofs.Common.{arith}
use Rattle.gfx_clear_runs.proofs.Painting.{block_front}
use Rattle.gfx_clear_runs.proofs.paint.paint_copies.Goals as goal

pub returns-then-out-at-ge-BLOCK : goal.returns-then-out-at-ge-BLOCK
returns-then-out-at-ge-BLOCK c =
    block_front c.args.at 8 c.args.count _ c.args.pixel c.args.out.now c.fill.new.self _ (omega arith) (omega arith) (omega arith) (c.fill.ensures.after (λ y same. same))
