use Rattle.std.proofs.Common.{◌*◌, ◌/◌, length, w16, arith}
use Rattle.std.proofs.lemmas.Int.{to_z-of_z}
use Rattle.gfx_dwt.proofs.Blocks.{block_more, block_varies, rest_too}
use Rattle.gfx_dwt.proofs.noughts.all_are.Goals as goal

pub returns-then-not-are_same : goal.returns-then-not-are_same
returns-then-not-are_same c =
    let one = c.args.one in
    let some = block_varies one c.args.values.now (64 * c.loop-block.block) _ (omega arith) (rw (to_z-of_z w16 one c.ranges.one) at c.if-not-are_same.ensures) in
    (some.0, omega (arith, some.2), some.3)

pub loop-block-preserved : goal.loop-block-preserved
loop-block-preserved c = λ k h.
    block_more _ c.args.values.now (64 * c.loop-block.block) _ (omega arith) c.if-not-are_same.ensures c.loop-block.invariant k (omega arith)

pub returns : goal.returns
returns c =
    let one = c.args.one in
    let same = to_z-of_z w16 one c.ranges.one in
    rest_too c.are_same-2.result one c.args.values.now (64 * (length c.args.values.now / 64)) (omega arith) (λ k h. (rw same at c.loop-block.invariant) k (omega arith)) (rw same at c.are_same-2.ensures)
