use Rattle.std.proofs.Common.{◌≡◌, ◌+◌, ◌*◌, ◌<◌, ◌≤◌, ◌∙◌, length, ℕ, ℤ, refl, arith}
use Rattle.std.proofs.Math.Nat.{mul-le-mul_right}
use Rattle.gfx_dwt.specs.Lifting.{odd_of}
use Rattle.gfx_dwt.specs.Place.{high_size, line_size, low_size}
use Rattle.gfx_dwt.specs.Samples.{cell}
use Rattle.gfx_dwt.proofs.Edges.{high_le_low}
use Rattle.gfx_dwt.proofs.NarrowLines.{odd_of_same}
use Rattle.gfx_dwt.proofs.Strips.{row_put_at}
use Rattle.gfx_dwt.proofs.narrow.rows.line_rows.Goals as goal

pub loop-r-preserved : goal.loop-r-preserved
loop-r-preserved c =
    let t = c.args.transform in
    let n = c.low_size-low_size.result in
    let room = n + 1 in
    let w = n + c.high_size.result in
    let r = c.loop-r.r in
    let le = high_le_low t c.args.level in
    let e : n ≡ low_size t c.args.level = c.low_size-low_size.ensures in
    let f : c.high_size.result ≡ high_size t c.args.level = c.high_size.ensures in
    let whole : c.args.rows * w ≡ c.args.rows * line_size t c.args.level = rw (e, f) refl in
    let more : (r + 1) * w ≤ c.args.rows * w = mul-le-mul_right w (omega arith) in
    let fits : r * w + w ≤ length c.loop-r.out = omega (arith, more, whole) in
    let edges : ℕ → ℕ → ℤ = cell room c.args.edges.now in
    let evens : ℕ → ℕ → ℤ = cell room c.args.evens.now in
    record {
      evens = row_put_at w r _ c.loop-r.out c.put_line.new.out (λ k. 2 * k < w) (λ k. 2 * k) evens fits (omega arith) (λ k h. h) c.loop-r.invariant.evens
          (λ k h. c.put_line.ensures.evens k (omega arith) ∙ c.narrow_row-in-loop-r.ensures.each k (omega arith));
      odds = row_put_at w r _ c.loop-r.out c.put_line.new.out (λ k. 2 * k + 1 < w) (λ k. 2 * k + 1) (λ i k. odd_of t (edges i (k + 1)) (evens i k) (evens i (k + 1))) fits (omega arith) (λ k h. h) c.loop-r.invariant.odds
          (λ k h. odd_of_same t _ _ _ _ _ _ _ (c.put_line.ensures.odds k (omega arith)) (c.narrow_row.ensures.each (k + 1) (omega arith)) (c.narrow_row-in-loop-r.ensures.each k (omega arith)) (c.narrow_row-in-loop-r.ensures.each (k + 1) (omega arith)));
    }
