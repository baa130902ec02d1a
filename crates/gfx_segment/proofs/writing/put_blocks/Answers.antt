use Rattle.std.proofs.Common.{arith}
use Rattle.gfx_segment.specs.declared.profile.TheConstants.{MOST_BLOCK}
use Rattle.gfx_segment.proofs.WrapLemmas.{sent_none, sent_more, sent_all, cut_joined, left_joined}
use Rattle.gfx_segment.proofs.writing.put_blocks.Goals as goal

pub turns-init : goal.turns-init
turns-init c = sent_none _ _ _ _ _ (omega arith)

pub turns-preserved : goal.turns-preserved
turns-preserved c =
    let head = c.turns.head_left.now in
    let tail = c.turns.tail_left.now in
    let one = c.cut_at_most.ensures in
    let other = c.cut_at_most-in-turns.ensures in
    sent_more _ _ _ _ _ _ _ _ _ _ _ (omega arith)
    (cut_joined MOST_BLOCK head tail _ _ one.front other.front)
    (left_joined MOST_BLOCK head tail _ _ _ one.front one.back other.back)
    c.in_ok-put_block.ensures c.turns.invariant

pub returns : goal.returns
returns c = sent_all _ _ _ _ _ _ _ (omega arith) c.turns.invariant
