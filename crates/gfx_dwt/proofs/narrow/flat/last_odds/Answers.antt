use Rattle.std.proofs.Common.{◌≡◌, ◌+◌, ◌-◌, ◌*◌, ◌<◌, ◌≤◌, ◌∙◌, length, to_z, of_z, w16, lit<, arith, rules}
use Rattle.std.proofs.Math.Nat.{mul-le-mul_right}
use Rattle.gfx_dwt.specs.declared.layout.Transform.TheVariants.{Plain}
use Rattle.gfx_dwt.specs.Lifting.{odd_of}
use Rattle.gfx_dwt.specs.Ranges.{Within, at}
use Rattle.gfx_dwt.specs.Samples.{cell}
use Rattle.gfx_dwt.proofs.Bounds.{bits_of_short, bits_of_narrow}
use Rattle.gfx_dwt.proofs.Flat.{column_kept, column_put}
use Rattle.gfx_dwt.proofs.Planes.{all_at}
use Rattle.gfx_dwt.proofs.Same.{within_more}
use Rattle.gfx_dwt.proofs.Spans.{within_abs}
use Rattle.gfx_dwt.proofs.Strips.{earlier_row}
use Rattle.gfx_dwt.proofs.narrow.flat.last_odds.Goals as goal

pub loop-r-preserved : goal.loop-r-preserved
loop-r-preserved c =
    let w = c.args.size in
    let r = c.loop-r.r in
    let end = r * w + w - 1 in
    let high = c.args.high.now in
    let evens = c.args.evens.now in
    let last : w - 1 < w = omega arith in
    let there : r * w + w - 1 ≡ r * w + (w - 1) = omega arith in
    let fits = earlier_row w r c.args.rows (w - 1) (omega arith) last in
    let e1 = bits_of_narrow 8191 (at high end) (lit< tt) (all_at 8191 high c.requires.high end) in
    let e2 = bits_of_narrow 16382 (at evens end) (lit< tt) (all_at 16382 evens c.requires.evens end) in
    let odd : to_z w16 (of_z w16 c.odd_sample-odd.result) ≡ c.odd_sample-odd.result = bits_of_short _ c.odd_sample-odd.type_inv in
    let value : c.odd_sample-odd.result ≡ odd_of Plain (at high end) (at evens end) (at evens end) = rw (e1, e2) at c.odd_sample-odd.ensures in
    let value : c.odd_sample-odd.result ≡ odd_of Plain (cell w high r (w - 1)) (cell w evens r (w - 1)) (cell w evens r (w - 1)) = rw there at value in
    let inside : end < length c.loop-r.odds = omega (arith, fits, there) in
    let before : c.loop-r.most ≤ c.max-most.result = search rules in
    let here : c.unsigned_abs.result ≤ c.max-most.result = search rules in
    record {
      last = column_put (λ i z. z ≡ odd_of Plain (cell w high i (w - 1)) (cell w evens i (w - 1)) (cell w evens i (w - 1))) w r (w - 1) end c.loop-r.odds _ last there inside (odd ∙ value) c.loop-r.invariant.last;
      within = column_put (λ _ z. Within c.max-most.result z) w r (w - 1) end c.loop-r.odds _ last there inside
          (within_more c.unsigned_abs.result c.max-most.result _ here (rw c.unsigned_abs.ensures.value (within_abs _)))
          (λ i h. within_more c.loop-r.most c.max-most.result _ before (c.loop-r.invariant.within i h));
      others = λ i k p. column_kept w r (w - 1) end c.loop-r.odds _ last there i k (omega arith) (omega arith) ∙ c.loop-r.invariant.others i k p;
    }

pub overflow_mul-end : goal.overflow_mul-end
overflow_mul-end c =
    let w = c.args.size in
    let more : (c.loop-r.r + 1) * w ≤ c.args.rows * w = mul-le-mul_right w (omega arith) in
    let small : c.args.rows * w ≤ 64 * w = mul-le-mul_right w (omega arith) in
    omega arith

pub overflow_add-end : goal.overflow_add-end
overflow_add-end c =
    let w = c.args.size in
    let more : (c.loop-r.r + 1) * w ≤ c.args.rows * w = mul-le-mul_right w (omega arith) in
    let small : c.args.rows * w ≤ 64 * w = mul-le-mul_right w (omega arith) in
    omega arith

pub overflow_sub-end : goal.overflow_sub-end
overflow_sub-end c =
    let w = c.args.size in
    let more : (c.loop-r.r + 1) * w ≤ c.args.rows * w = mul-le-mul_right w (omega arith) in
    let small : c.args.rows * w ≤ 64 * w = mul-le-mul_right w (omega arith) in
    omega arith

pub offset_bounds-high-end : goal.offset_bounds-high-end
offset_bounds-high-end c =
    let w = c.args.size in
    let more : (c.loop-r.r + 1) * w ≤ c.args.rows * w = mul-le-mul_right w (omega arith) in
    let small : c.args.rows * w ≤ 64 * w = mul-le-mul_right w (omega arith) in
    omega arith

pub bounds-high-end : goal.bounds-high-end
bounds-high-end c =
    let w = c.args.size in
    let more : (c.loop-r.r + 1) * w ≤ c.args.rows * w = mul-le-mul_right w (omega arith) in
    let small : c.args.rows * w ≤ 64 * w = mul-le-mul_right w (omega arith) in
    omega arith

pub offset_bounds-evens-end : goal.offset_bounds-evens-end
offset_bounds-evens-end c =
    let w = c.args.size in
    let more : (c.loop-r.r + 1) * w ≤ c.args.rows * w = mul-le-mul_right w (omega arith) in
    let small : c.args.rows * w ≤ 64 * w = mul-le-mul_right w (omega arith) in
    omega arith

pub bounds-evens-end : goal.bounds-evens-end
bounds-evens-end c =
    let w = c.args.size in
    let more : (c.loop-r.r + 1) * w ≤ c.args.rows * w = mul-le-mul_right w (omega arith) in
    let small : c.args.rows * w ≤ 64 * w = mul-le-mul_right w (omega arith) in
    omega arith

pub offset_bounds-evens-end-in-loop-r : goal.offset_bounds-evens-end-in-loop-r
offset_bounds-evens-end-in-loop-r c =
    let w = c.args.size in
    let more : (c.loop-r.r + 1) * w ≤ c.args.rows * w = mul-le-mul_right w (omega arith) in
    let small : c.args.rows * w ≤ 64 * w = mul-le-mul_right w (omega arith) in
    omega arith

pub bounds-evens-end-in-loop-r : goal.bounds-evens-end-in-loop-r
bounds-evens-end-in-loop-r c =
    let w = c.args.size in
    let more : (c.loop-r.r + 1) * w ≤ c.args.rows * w = mul-le-mul_right w (omega arith) in
    let small : c.args.rows * w ≤ 64 * w = mul-le-mul_right w (omega arith) in
    omega arith

pub offset_bounds-odds-end : goal.offset_bounds-odds-end
offset_bounds-odds-end c =
    let w = c.args.size in
    let more : (c.loop-r.r + 1) * w ≤ c.args.rows * w = mul-le-mul_right w (omega arith) in
    let small : c.args.rows * w ≤ 64 * w = mul-le-mul_right w (omega arith) in
    omega arith

pub bounds-odds-end : goal.bounds-odds-end
bounds-odds-end c =
    let w = c.args.size in
    let more : (c.loop-r.r + 1) * w ≤ c.args.rows * w = mul-le-mul_right w (omega arith) in
    let small : c.args.rows * w ≤ 64 * w = mul-le-mul_right w (omega arith) in
    omega arith
