use Rattle.std.proofs.Common.{◌≡◌, ◌^◌, ◌+◌, ◌-◌, ◌*◌, length, length-set, ℤ, to_z, of_z, w32, lit<, ◌∙◌, arith}
use Rattle.gfx_dwt.specs.declared.layout.Transform.TheVariants.{Reduced}
use Rattle.gfx_dwt.specs.Place.{high_size}
use Rattle.gfx_dwt.specs.Joining.{even}
use Rattle.gfx_dwt.specs.Lifting.{even_of, odd_of}
use Rattle.gfx_dwt.specs.Ranges.{at}
use Rattle.gfx_dwt.proofs.Bounds.{bits_of_small, bits_of_within}
use Rattle.gfx_dwt.proofs.Edges.{even_behind, behind_one_more}
use Rattle.gfx_dwt.proofs.WholeLines.{reduced_pairs_all, later_line}
use Rattle.gfx_dwt.proofs.lines.join_later.Goals as goal

pub returns : goal.returns
returns c = λ l e f k h.
    let low = at c.args.low.now in
    let high = at c.args.high.now in
    let m = length c.args.high.now in
    let pairs = c.pairs-sample in
    let end = m - 1 in
    let sample : ℤ = to_z w32 (of_z w32 pairs.result) in
    let next : ℤ = to_z w32 (of_z w32 c.even_sample-next.result) in
    let last : ℤ = to_z w32 (of_z w32 c.odd_sample-odd.result) in
    let small = bits_of_small pairs.result pairs.type_inv in
    let small_next = bits_of_small c.even_sample-next.result c.even_sample-next.type_inv in
    let small_last = bits_of_small c.odd_sample-odd.result c.odd_sample-odd.type_inv in
    let small_high = bits_of_within (2 ^ 28) (high end) (lit< tt) (c.requires.high end (omega arith)) in
    let small_low = bits_of_within (2 ^ 28) (low (end + 1)) (lit< tt) (c.requires.low (end + 1) (omega arith)) in
    let one : end + 1 ≡ m = omega arith in
    let behind : even Reduced l low high m ≡ even_of Reduced (low m) (high end) (high end) = rw e (even_behind Reduced l low high ∙ rw (behind_one_more l (high (high_size Reduced l - 1)) (omega arith))) in
    let value : next ≡ even Reduced l low high m = cc (c.even_sample-next.ensures.value, small_next, small_high, small_low, one, behind) in
    let odd : last ≡ odd_of Reduced (high end) sample next = cc (c.odd_sample-odd.ensures, small_last, small_high) in
    let all = reduced_pairs_all l low high pairs.new.out m sample next last e (omega arith) pairs.ensures.evens pairs.ensures.odds (small ∙ pairs.ensures.last) value odd in
    let two : 2 * end + 2 ≡ 2 * m = omega arith in
    rw (c.put_pair.ensures, two)
    (later_line l low high _ m next (omega (arith, length-set {A = ℤ})) all value k (omega arith))
