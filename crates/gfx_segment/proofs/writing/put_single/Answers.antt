use Rattle.std.proofs.Common.{◌≤◌, ◌++◌, length, sym, ap, ◌∙◌, arith, length-append}
use Rattle.std.specs.Int.{w32, to_le_bytes}
use Rattle.gfx_segment.specs.declared.profile.TheConstants.{MOST_BLOCK}
use Rattle.gfx_segment.proofs.PutLemmas.{puts_after, puts_due}
use Rattle.gfx_segment.proofs.WrapLemmas.{wrapped_single}
use Rattle.gfx_segment.proofs.writing.put_single.Goals as goal

pub returns : goal.returns
returns c =
    let all = c.args.head.now ++ c.args.tail.now in
    let few : length all ≤ MOST_BLOCK = omega (arith, c.requires, length-append c.args.head.now c.args.tail.now) in
    puts_due _ _ _ _ _ (sym (wrapped_single all few))
    (puts_after _ _ _ _ _ _ (c.in_ok-put_length.ensures.ok ∙ ap (λ z. c.args.out.now ++ to_le_bytes w32 z) (omega (arith, length-append c.args.head.now c.args.tail.now)))
    (puts_after _ _ _ _ _ _ c.in_ok-append.ensures.ok c.put_both.ensures))
