use Rattle.std.proofs.Common.{◌≡◌, ◌^◌, ℤ, pos, to_z, of_z, w32, lit<, length-set, refl, ◌∙◌, arith}
use Rattle.gfx_dwt.specs.declared.layout.Transform.TheVariants.{Reduced}
use Rattle.gfx_dwt.specs.declared.layout.Scale.TheVariants.{First}
use Rattle.gfx_dwt.specs.Joining.{behind, even}
use Rattle.gfx_dwt.specs.Lifting.{even_of, odd_of}
use Rattle.gfx_dwt.specs.Ranges.{at}
use Rattle.gfx_dwt.proofs.Bounds.{bits_of_small, bits_of_within}
use Rattle.gfx_dwt.proofs.Edges.{even_behind}
use Rattle.gfx_dwt.proofs.WholeLines.{reduced_pairs_all, first_line}
use Rattle.gfx_dwt.proofs.lines.join_first.Goals as goal

pub returns : goal.returns
unfolding behind
returns c = λ k h.
    let low = at c.args.low.now in
    let high = at c.args.high.now in
    let pairs = c.pairs-sample in
    let sample : ℤ = to_z w32 (of_z w32 pairs.result) in
    let next : ℤ = to_z w32 (of_z w32 c.even_sample-next.result) in
    let odd : ℤ = to_z w32 (of_z w32 c.odd_sample-odd.result) in
    let beyond : ℤ = to_z w32 (of_z w32 c.even_sample-beyond.result) in
    let last : ℤ = to_z w32 (of_z w32 c.odd_sample-last.result) in
    let small = bits_of_small pairs.result pairs.type_inv in
    let small_next = bits_of_small c.even_sample-next.result c.even_sample-next.type_inv in
    let small_odd = bits_of_small c.odd_sample-odd.result c.odd_sample-odd.type_inv in
    let small_beyond = bits_of_small c.even_sample-beyond.result c.even_sample-beyond.type_inv in
    let small_last = bits_of_small c.odd_sample-last.result c.odd_sample-last.type_inv in
    let small_high = bits_of_within (2 ^ 28) (high 30) (lit< tt) (c.requires.high 30 (omega arith)) in
    let small_31 = bits_of_within (2 ^ 28) (low 31) (lit< tt) (c.requires.low 31 (omega arith)) in
    let small_32 = bits_of_within (2 ^ 28) (low 32) (lit< tt) (c.requires.low 32 (omega arith)) in
    let value : next ≡ even Reduced First low high 31 = cc (c.even_sample-next.ensures.value, small_next, small_high, small_31, even_behind Reduced First low high) in
    let is_odd : odd ≡ odd_of Reduced (high 30) sample next = cc (c.odd_sample-odd.ensures, small_odd, small_high) in
    let is_beyond : beyond ≡ even_of Reduced (low 32) (pos 0) (pos 0) = cc (c.even_sample-beyond.ensures.value, small_beyond, small_32) in
    let is_last : last ≡ odd_of Reduced (pos 0) next beyond = cc (c.odd_sample-last.ensures, small_last) in
    let e = c.requires.high_len in
    let all = reduced_pairs_all First low high pairs.new.out 31 sample next odd refl (omega arith) (λ j q. pairs.ensures.evens j (omega arith)) (λ j q. pairs.ensures.odds j (omega arith)) (small ∙ rw e at pairs.ensures.last) value is_odd in
    rw (c.put_pair-2.ensures, c.put_pair.ensures)
    (first_line low high _ next beyond last (omega (arith, length-set {A = ℤ})) all value is_beyond is_last k (omega arith))

pub bounds-low-31 : goal.bounds-low-31
bounds-low-31 c = omega arith

pub bounds-high-30 : goal.bounds-high-30
bounds-high-30 c = omega arith

pub bounds-high-30-2 : goal.bounds-high-30-2
bounds-high-30-2 c = omega arith

pub bounds-low-32 : goal.bounds-low-32
bounds-low-32 c = omega arith
