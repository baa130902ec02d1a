use Rattle.std.proofs.Common.{◌≡◌, ◌+◌, ◌-◌, ◌*◌, ◌<◌, ◌≤◌, length, ℕ, ℤ, arith}
use Rattle.std.proofs.lemmas.Nat.{rows}
use Rattle.std.proofs.lemmas.Grind.{common_steps}
use Rattle.gfx_dwt.specs.Lifting.{even_of}
use Rattle.gfx_dwt.specs.Place.{low_size}
use Rattle.gfx_dwt.specs.Samples.{cell}
use Rattle.gfx_dwt.proofs.Edges.{high_le_low, high_some}
use Rattle.gfx_dwt.proofs.NarrowLines.{even_of_same}
use Rattle.gfx_dwt.proofs.Strips.{row_put_at, row_put_twice}
use Rattle.gfx_dwt.proofs.narrow.rows.even_rows.Goals as goal

pub put_evens-requires-clause-evens : goal.put_evens-requires-clause-evens
put_evens-requires-clause-evens c = λ k h.
    let e : c.low_size-low_size.result ≡ low_size c.args.transform c.args.level = c.low_size-low_size.ensures in
    let inside : k < c.low_size-low_size.result = omega arith in
    rw (c.narrow_row.ensures.each k inside, c.narrow_row-in-loop-r.ensures.each k (omega arith), c.narrow_row-in-loop-r.ensures.each (k + 1) (omega arith))
    (rw e (c.requires.evens c.loop-r.r k (omega arith) (rw e at inside)))

pub loop-r-preserved : goal.loop-r-preserved
loop-r-preserved c =
    let t = c.args.transform in
    let n = c.low_size-low_size.result in
    let w = n + 1 in
    let r = c.loop-r.r in
    let f : ℕ → ℕ → ℤ = λ i k. even_of t (cell n c.args.low.now i k) (cell w c.args.edges.now i k) (cell w c.args.edges.now i (k + 1)) in
    let fits : r * w + w ≤ length c.loop-r.evens = grind (arith, common_steps, rows) in
    let some = high_some t c.args.level in
    let le = high_le_low t c.args.level in
    let e : n ≡ low_size t c.args.level = c.low_size-low_size.ensures in
    record {
      each = row_put_at w r _ c.loop-r.evens c.put_evens.new.evens (λ k. k < n) (λ k. k) f fits (omega arith) (λ k h. omega arith) c.loop-r.invariant.each
          (λ k h. even_of_same t _ _ _ _ _ _ _ (c.put_evens.ensures.each k (omega arith)) (c.narrow_row.ensures.each k h) (c.narrow_row-in-loop-r.ensures.each k (omega arith)) (c.narrow_row-in-loop-r.ensures.each (k + 1) (omega arith)));
      last = row_put_twice w r _ c.loop-r.evens c.put_evens.new.evens n (n - 1) fits (omega arith) (omega arith) (omega (arith, e)) c.loop-r.invariant.last (rw c.narrow_row.ensures.len at c.put_evens.ensures.last);
    }
