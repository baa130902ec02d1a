use Rattle.std.proofs.Common.{◌≡◌, ◌^◌, ◌∙◌, to_z, of_z, w32, lit<, arith}
use Rattle.gfx_dwt.specs.Lifting.{even_of, odd_of}
use Rattle.gfx_dwt.specs.Ranges.{at}
use Rattle.gfx_dwt.proofs.Bounds.{bits_of_small, bits_of_within}
use Rattle.gfx_dwt.proofs.Pairs.{put_next}
use Rattle.gfx_dwt.proofs.kernels.pair_by.Goals as goal

pub loop-k-preserved : goal.loop-k-preserved
loop-k-preserved g c =
    let k = c.loop-k.k in
    let low = at c.args.low.now in
    let high = at c.args.high.now in
    let next = at c.args.next.now in
    let above = at c.args.above.now in
    let e1 = bits_of_within (2 ^ 28) _ (lit< tt) (c.requires.low k (omega arith)) in
    let e2 = bits_of_within (2 ^ 28) _ (lit< tt) (c.requires.high k (omega arith)) in
    let e3 = bits_of_within (2 ^ 28) _ (lit< tt) (c.requires.next k (omega arith)) in
    let e4 = bits_of_within (2 ^ 29) _ (lit< tt) (c.requires.above k (omega arith)) in
    let even : to_z w32 (of_z w32 c.even_sample-even.result) ≡ c.even_sample-even.result = bits_of_small _ c.even_sample-even.type_inv in
    let value : c.even_sample-even.result ≡ even_of g.L.Lifting.transform (low k) (high k) (next k) = cc (c.even_sample-even.ensures.value, e1, e2, e3) in
    let odd : c.odd_sample.result ≡ odd_of g.L.Lifting.transform (high k) (above k) (even_of g.L.Lifting.transform (low k) (high k) (next k)) = cc (c.odd_sample.ensures, e2, e4, even, value) in
    record {
      evens = put_next _ _ k _ (omega arith) (even ∙ value) c.loop-k.invariant.evens;
      odds = put_next _ _ k _ (omega arith) (bits_of_small _ c.odd_sample.type_inv ∙ odd) c.loop-k.invariant.odds;
    }

pub offset_bounds-low-k : goal.offset_bounds-low-k
offset_bounds-low-k g c = omega arith

pub bounds-low-k : goal.bounds-low-k
bounds-low-k g c = omega arith

pub offset_bounds-high-k : goal.offset_bounds-high-k
offset_bounds-high-k g c = omega arith

pub bounds-high-k : goal.bounds-high-k
bounds-high-k g c = omega arith

pub offset_bounds-next-k : goal.offset_bounds-next-k
offset_bounds-next-k g c = omega arith

pub bounds-next-k : goal.bounds-next-k
bounds-next-k g c = omega arith

pub offset_bounds-evens-k : goal.offset_bounds-evens-k
offset_bounds-evens-k g c = omega arith

pub bounds-evens-k : goal.bounds-evens-k
bounds-evens-k g c = omega arith

pub offset_bounds-high-k-in-loop-k : goal.offset_bounds-high-k-in-loop-k
offset_bounds-high-k-in-loop-k g c = omega arith

pub bounds-high-k-in-loop-k : goal.bounds-high-k-in-loop-k
bounds-high-k-in-loop-k g c = omega arith

pub offset_bounds-above-k : goal.offset_bounds-above-k
offset_bounds-above-k g c = omega arith

pub bounds-above-k : goal.bounds-above-k
bounds-above-k g c = omega arith

pub offset_bounds-odds-k : goal.offset_bounds-odds-k
offset_bounds-odds-k g c = omega arith

pub bounds-odds-k : goal.bounds-odds-k
bounds-odds-k g c = omega arith
