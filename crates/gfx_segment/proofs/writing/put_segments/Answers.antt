use Rattle.std.proofs.Common.{◌≡◌, ◌+◌, ◌<◌, ◌∙◌, ◌++◌, length, sym, ap, arith, length-append}
use Rattle.std.specs.Int.{w32, to_le_bytes, div_ceil}
use Rattle.gfx_segment.specs.declared.profile.TheConstants.{MOST_BLOCK}
use Rattle.gfx_segment.proofs.PutLemmas.{puts_after, puts_due}
use Rattle.gfx_segment.proofs.WrapLemmas.{wrapped_segments}
use Rattle.gfx_segment.proofs.writing.put_segments.Goals as goal

pub returns : goal.returns
returns c =
    let all = c.args.head.now ++ c.args.tail.now in
    let count = c.div_ceil-count.result in
    let size : length c.args.head.now + length c.args.tail.now ≡ length all = sym (length-append c.args.head.now c.args.tail.now) in
    let counted : count ≡ div_ceil (length all) MOST_BLOCK = c.div_ceil-count.ensures ∙ ap (λ z. div_ceil z MOST_BLOCK) size in
    let many : MOST_BLOCK < length all = omega (arith, c.requires.more, size) in
    puts_due _ _ _ _ _ (sym (wrapped_segments all count counted many))
    (puts_after _ _ _ _ _ _ (c.in_ok-put_length.ensures.ok ∙ ap (λ z. c.args.out.now ++ to_le_bytes w32 z) (omega (arith, size)))
    (puts_after _ _ _ _ _ _ c.in_ok-append.ensures.ok
    (puts_after _ _ _ _ _ _ (c.in_ok-append-2.ensures.ok ∙ ap (λ z. c.append.new.self ++ z) c.to_le_bytes.ensures)
    (puts_after _ _ _ _ _ _ (c.in_ok-append-3.ensures.ok ∙ ap (λ z. c.append-2.new.self ++ z) c.to_le_bytes-2.ensures ∙ ap (λ z. c.append-2.new.self ++ to_le_bytes w32 z) size)
    c.put_blocks.ensures))))
