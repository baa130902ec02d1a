use Rattle.std.proofs.Common.{◌≡◌, ◌+◌, ◌*◌, ◌<◌, ◌≤◌, ◌∙◌, length, to_z, of_z, w16, lit<, arith, rules}
use Rattle.std.proofs.Math.Nat.{mul-le-mul_right}
use Rattle.gfx_dwt.specs.declared.layout.Transform.TheVariants.{Plain}
use Rattle.gfx_dwt.specs.Lifting.{even_of}
use Rattle.gfx_dwt.specs.Ranges.{Within, at}
use Rattle.gfx_dwt.specs.Samples.{cell}
use Rattle.gfx_dwt.proofs.Bounds.{bits_of_short, bits_of_narrow}
use Rattle.gfx_dwt.proofs.Flat.{column_kept, column_put}
use Rattle.gfx_dwt.proofs.Planes.{all_at}
use Rattle.gfx_dwt.proofs.Same.{within_more}
use Rattle.gfx_dwt.proofs.Small.{small_even, small_high, small_low}
use Rattle.gfx_dwt.proofs.Spans.{within_abs}
use Rattle.gfx_dwt.proofs.Strips.{earlier_row}
use Rattle.gfx_dwt.proofs.narrow.flat.first_evens.Goals as goal

pub even_sample-even-requires-clause-small : goal.even_sample-even-requires-clause-small
even_sample-even-requires-clause-small c =
    let start = c.loop-r.r * c.args.size in
    let low = c.args.low.now in
    let high = c.args.high.now in
    let e1 = bits_of_narrow 16382 (at low start) (lit< tt) (all_at 16382 low (small_low low high c.requires.small) start) in
    let e2 = bits_of_narrow 8191 (at high start) (lit< tt) (all_at 8191 high (small_high low high c.requires.small) start) in
    rw (e1, e2) (small_even Plain low high c.requires.small start start start)

pub loop-r-preserved : goal.loop-r-preserved
loop-r-preserved c =
    let w = c.args.size in
    let r = c.loop-r.r in
    let start = r * w in
    let low = c.args.low.now in
    let high = c.args.high.now in
    let there : r * w ≡ r * w + 0 = omega arith in
    let fits = earlier_row w r c.args.rows 0 (omega arith) c.requires.size in
    let e1 = bits_of_narrow 16382 (at low start) (lit< tt) (all_at 16382 low (small_low low high c.requires.small) start) in
    let e2 = bits_of_narrow 8191 (at high start) (lit< tt) (all_at 8191 high (small_high low high c.requires.small) start) in
    let even : to_z w16 (of_z w16 c.even_sample-even.result) ≡ c.even_sample-even.result = bits_of_short _ c.even_sample-even.type_inv in
    let value : c.even_sample-even.result ≡ even_of Plain (at low start) (at high start) (at high start) = rw (e1, e2) at c.even_sample-even.ensures.value in
    let value : c.even_sample-even.result ≡ even_of Plain (cell w low r 0) (cell w high r 0) (cell w high r 0) = rw (← there) value in
    let inside : start < length c.loop-r.evens = omega (arith, fits) in
    let before : c.loop-r.most ≤ c.max-most.result = search rules in
    let here : c.unsigned_abs.result ≤ c.max-most.result = search rules in
    record {
      first = column_put (λ i z. z ≡ even_of Plain (cell w low i 0) (cell w high i 0) (cell w high i 0)) w r 0 start c.loop-r.evens _ c.requires.size there inside (even ∙ value) c.loop-r.invariant.first;
      within = column_put (λ _ z. Within c.max-most.result z) w r 0 start c.loop-r.evens _ c.requires.size there inside
          (within_more c.unsigned_abs.result c.max-most.result _ here (rw c.unsigned_abs.ensures.value (within_abs _)))
          (λ i h. within_more c.loop-r.most c.max-most.result _ before (c.loop-r.invariant.within i h));
      others = λ i k p q. column_kept w r 0 start c.loop-r.evens _ c.requires.size there i k q (omega arith) ∙ c.loop-r.invariant.others i k p q;
    }

pub overflow_mul-start : goal.overflow_mul-start
overflow_mul-start c =
    let w = c.args.size in
    let more : (c.loop-r.r + 1) * w ≤ c.args.rows * w = mul-le-mul_right w (omega arith) in
    let small : c.args.rows * w ≤ 64 * w = mul-le-mul_right w (omega arith) in
    omega arith

pub offset_bounds-low-start : goal.offset_bounds-low-start
offset_bounds-low-start c =
    let w = c.args.size in
    let more : (c.loop-r.r + 1) * w ≤ c.args.rows * w = mul-le-mul_right w (omega arith) in
    let small : c.args.rows * w ≤ 64 * w = mul-le-mul_right w (omega arith) in
    omega arith

pub bounds-low-start : goal.bounds-low-start
bounds-low-start c =
    let w = c.args.size in
    let more : (c.loop-r.r + 1) * w ≤ c.args.rows * w = mul-le-mul_right w (omega arith) in
    let small : c.args.rows * w ≤ 64 * w = mul-le-mul_right w (omega arith) in
    omega arith

pub offset_bounds-high-start : goal.offset_bounds-high-start
offset_bounds-high-start c =
    let w = c.args.size in
    let more : (c.loop-r.r + 1) * w ≤ c.args.rows * w = mul-le-mul_right w (omega arith) in
    let small : c.args.rows * w ≤ 64 * w = mul-le-mul_right w (omega arith) in
    omega arith

pub bounds-high-start : goal.bounds-high-start
bounds-high-start c =
    let w = c.args.size in
    let more : (c.loop-r.r + 1) * w ≤ c.args.rows * w = mul-le-mul_right w (omega arith) in
    let small : c.args.rows * w ≤ 64 * w = mul-le-mul_right w (omega arith) in
    omega arith

pub offset_bounds-high-start-in-loop-r : goal.offset_bounds-high-start-in-loop-r
offset_bounds-high-start-in-loop-r c =
    let w = c.args.size in
    let more : (c.loop-r.r + 1) * w ≤ c.args.rows * w = mul-le-mul_right w (omega arith) in
    let small : c.args.rows * w ≤ 64 * w = mul-le-mul_right w (omega arith) in
    omega arith

pub bounds-high-start-in-loop-r : goal.bounds-high-start-in-loop-r
bounds-high-start-in-loop-r c =
    let w = c.args.size in
    let more : (c.loop-r.r + 1) * w ≤ c.args.rows * w = mul-le-mul_right w (omega arith) in
    let small : c.args.rows * w ≤ 64 * w = mul-le-mul_right w (omega arith) in
    omega arith

pub offset_bounds-evens-start : goal.offset_bounds-evens-start
offset_bounds-evens-start c =
    let w = c.args.size in
    let more : (c.loop-r.r + 1) * w ≤ c.args.rows * w = mul-le-mul_right w (omega arith) in
    let small : c.args.rows * w ≤ 64 * w = mul-le-mul_right w (omega arith) in
    omega arith

pub bounds-evens-start : goal.bounds-evens-start
bounds-evens-start c =
    let w = c.args.size in
    let more : (c.loop-r.r + 1) * w ≤ c.args.rows * w = mul-le-mul_right w (omega arith) in
    let small : c.args.rows * w ≤ 64 * w = mul-le-mul_right w (omega arith) in
    omega arith
