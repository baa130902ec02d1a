use Rattle.std.proofs.Common.{◌∙◌, length, lit<, arith}
use Rattle.gfx_dwt.specs.Ranges.{AllWithin}
use Rattle.gfx_dwt.proofs.Bounds.{bits_of_narrow}
use Rattle.gfx_dwt.proofs.Edges.{high_some, high_le_low}
use Rattle.gfx_dwt.proofs.Smooth.{copies_within, smooth_is}
use Rattle.gfx_dwt.proofs.narrow.smooth.smooth_line_in.Goals as goal

pub put_amid-requires-clause-places : goal.put_amid-requires-clause-places
put_amid-requires-clause-places c =
    let some = high_some c.args.transform c.args.level in
    let le = high_le_low c.args.transform c.args.level in
    copies_within c.args.low.now _ (omega arith) (omega arith) c.requires.low c.put_with_last.ensures.each c.put_with_last.ensures.last

pub returns : goal.returns
returns c = λ k h.
    let some = high_some c.args.transform c.args.level in
    let le = high_le_low c.args.transform c.args.level in
    let count = length c.args.odds.now in
    let small : AllWithin 16382 c.put_with_last.new.out = copies_within c.args.low.now _ (omega arith) (omega arith) c.requires.low c.put_with_last.ensures.each c.put_with_last.ensures.last in
    smooth_is c.args.transform c.args.level c.args.low.now _ c.put_amid.new.out c.put_pairs.new.out _ count c.requires.low_len (omega arith)
    c.put_with_last.ensures.each c.put_with_last.ensures.last (λ n q. c.put_amid.ensures n (omega arith))
    (λ n q. c.put_pairs.ensures.evens n (omega arith)) (λ n q. c.put_pairs.ensures.odds n (omega arith))
    (λ n q. c.put_last.ensures.before n (omega arith)) (λ q. c.put_last.ensures.here (omega arith) ∙ bits_of_narrow 16382 _ (lit< tt) (small count (omega arith)))
    k (omega arith)
