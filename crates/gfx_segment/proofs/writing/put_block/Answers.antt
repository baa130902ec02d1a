use Rattle.std.proofs.Common.{◌∙◌, ◌++◌, ap, arith, length-append}
use Rattle.std.specs.Int.{w32, to_le_bytes}
use Rattle.gfx_segment.specs.Framing.{sized_block}
use Rattle.gfx_segment.proofs.PutLemmas.{puts_after}
use Rattle.gfx_segment.proofs.writing.put_block.Goals as goal

pub returns : goal.returns
unfolding sized_block
returns c =
    puts_after _ _ _ _ _ _ (c.in_ok-append.ensures.ok ∙ ap (λ z. c.args.out.now ++ z) c.to_le_bytes.ensures ∙ ap (λ z. c.args.out.now ++ to_le_bytes w32 z) (omega (arith, length-append c.args.first.now c.args.second.now)))
    (puts_after _ _ _ _ _ _ c.in_ok-append-2.ensures.ok c.put_both.ensures)
