use Rattle.std.proofs.Common.{◌≡◌, ◌^◌, ◌-◌, length, ℤ, to_z, of_z, w32, lit<, ◌∙◌, arith}
use Rattle.gfx_dwt.specs.declared.layout.Transform.TheVariants.{Plain}
use Rattle.gfx_dwt.specs.Lifting.{odd_of}
use Rattle.gfx_dwt.specs.Ranges.{at}
use Rattle.gfx_dwt.proofs.Bounds.{bits_of_small, bits_of_within}
use Rattle.gfx_dwt.proofs.WholeLines.{plain_line}
use Rattle.gfx_dwt.proofs.lines.join_plain.Goals as goal

pub returns : goal.returns
returns c = λ l e k h.
    let high = at c.args.high.now in
    let pairs = c.pairs-sample in
    let end = length c.args.high.now - 1 in
    let sample : ℤ = to_z w32 (of_z w32 pairs.result) in
    let last : ℤ = to_z w32 (of_z w32 c.odd_sample-odd.result) in
    let small = bits_of_small pairs.result pairs.type_inv in
    let small_last = bits_of_small c.odd_sample-odd.result c.odd_sample-odd.type_inv in
    let small_high = bits_of_within (2 ^ 28) (high end) (lit< tt) (c.requires.high end (omega arith)) in
    let odd : last ≡ odd_of Plain (high end) sample sample = cc (c.odd_sample-odd.ensures, small_last, small_high) in
    rw c.put_pair.ensures
    (plain_line l (at c.args.low.now) high pairs.new.out (length c.args.high.now) sample last e (omega arith) pairs.ensures.evens pairs.ensures.odds (small ∙ pairs.ensures.last) odd k (omega arith))
