use Rattle.std.proofs.Common.{◌≡◌, ℕ, ◌+◌, ◌-◌, ◌*◌, ◌≤◌, length, ap, ◌∙◌, arith, ℤ}
use Rattle.std.proofs.Math.Nat.{mul-le-mul_right}
use Rattle.gfx_dwt.specs.Joining.{joined}
use Rattle.gfx_dwt.specs.Place.{low_size}
use Rattle.gfx_dwt.specs.Samples.{column}
use Rattle.gfx_dwt.proofs.NoDetail.{nought}
use Rattle.gfx_dwt.proofs.Smooth.{is_even_smooth, is_odd_smooth, low_le_high, smooth_rest, two_rows_put}
use Rattle.gfx_dwt.proofs.Strips.{row_put}
use Rattle.gfx_dwt.proofs.narrow.smooth.smooth_columns_of.Goals as goal

pub pairs-init : goal.pairs-init
pairs-init c = λ i x p q. absurd (omega arith)

pub pairs-preserved : goal.pairs-preserved
pairs-preserved c = λ i x p q.
    let t = c.args.transform in
    let l = c.args.level in
    let w = c.args.width in
    let low = column w c.args.low.now in
    let le = low_le_high t l in
    let n = c.pairs.place in
    let f : ℕ → ℕ → ℤ = λ r j. joined t l (low j) nought r in
    let more : (2 * n + 2) * w ≤ w * w = mul-le-mul_right w (omega arith) in
    let fits : 2 * n * w + 2 * w ≤ length c.pairs.out = omega (arith, more) in
    two_rows_put w (2 * n) _ c.pairs.out c.smooth_pair.new.rows f fits (omega arith) c.pairs.invariant
    (λ j h. is_even_smooth t l (low j) n _ (c.smooth_pair.ensures.evens j h ∙ c.narrow_row.ensures.each j h))
    (λ j h. is_odd_smooth t l (low j) n _ _ _ (omega arith) (c.smooth_pair.ensures.odds j h) (c.narrow_row.ensures.each j h) (c.narrow_row-in-pairs.ensures.each j h))
    i x (omega arith) q

pub rest-init : goal.rest-init
rest-init c = λ i x p q. c.pairs.invariant i x (omega arith) q

pub rest-preserved : goal.rest-preserved
rest-preserved c = λ i x p q.
    let t = c.args.transform in
    let l = c.args.level in
    let w = c.args.width in
    let low = column w c.args.low.now in
    let r = c.rest.r in
    let f : ℕ → ℕ → ℤ = λ i j. joined t l (low j) nought i in
    let e : c.low_size-end.result - 1 ≡ low_size t l - 1 = omega arith in
    let more : (r + 1) * w ≤ w * w = mul-le-mul_right w (omega arith) in
    let fits : r * w + w ≤ length c.rest.out = omega (arith, more) in
    row_put w r _ c.rest.out c.copy.new.out f fits (omega (arith, fits)) c.rest.invariant
    (λ j h. c.copy.ensures j (omega (arith, fits)) ∙ c.narrow_row-in-rest.ensures.each j h ∙ ap (low j) e ∙ smooth_rest t l (low j) r (omega arith) (omega arith))
    i x (omega arith) q

pub returns : goal.returns
returns c = λ y x p q. c.rest.invariant y x (omega arith) q
