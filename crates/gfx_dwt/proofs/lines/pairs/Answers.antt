use Rattle.std.proofs.Common.{◌≡◌, ◌^◌, ◌+◌, ◌-◌, ◌∙◌, to_z, of_z, w32, lit<, arith}
use Rattle.gfx_dwt.specs.Joining.{lowered}
use Rattle.gfx_dwt.specs.Lifting.{even_of, odd_of}
use Rattle.gfx_dwt.specs.Ranges.{at}
use Rattle.gfx_dwt.proofs.Bounds.{bits_of_small, bits_of_within}
use Rattle.gfx_dwt.proofs.Pairs.{pair_put}
use Rattle.gfx_dwt.proofs.lines.pairs.Goals as goal

pub odd_sample-requires-clause-high : goal.odd_sample-requires-clause-high
odd_sample-requires-clause-high g c =
    let h = c.requires.high c.loop-k.k (omega arith) in
    rw (bits_of_within (2 ^ 28) _ (lit< tt) h) h

pub loop-k-preserved : goal.loop-k-preserved
unfolding lowered
loop-k-preserved g c =
    let k = c.loop-k.k in
    let low = at c.args.low.now in
    let high = at c.args.high.now in
    let next : to_z w32 (of_z w32 c.even_sample-next.result) ≡ c.even_sample-next.result = bits_of_small _ c.even_sample-next.type_inv in
    let e1 = bits_of_within (2 ^ 28) _ (lit< tt) (c.requires.low (k + 1) (omega arith)) in
    let e2 = bits_of_within (2 ^ 28) _ (lit< tt) (c.requires.high k (omega arith)) in
    let e3 = bits_of_within (2 ^ 28) _ (lit< tt) (c.requires.high (k + 1) (omega arith)) in
    let e4 : k + 1 - 1 ≡ k = omega arith in
    let here : c.even_sample-next.result ≡ even_of g.L.Lifting.transform (low (k + 1)) (high (k + 1 - 1)) (high (k + 1)) = cc (c.even_sample-next.ensures.value, e1, e2, e3, e4) in
    let odd : c.odd_sample.result ≡ odd_of g.L.Lifting.transform (high k) (lowered g.L.Lifting.transform low high k) (lowered g.L.Lifting.transform low high (k + 1)) = cc (c.odd_sample.ensures, e2, next, here, c.loop-k.invariant.here) in
    record {
      here = next ∙ here;
      small = rw next c.even_sample-next.ensures.small;
      pairs = pair_put _ _ _ k _ _ (omega arith) c.loop-k.invariant.here (bits_of_small _ c.odd_sample.type_inv ∙ odd) c.loop-k.invariant.pairs;
    }

pub returns-clause-evens : goal.returns-clause-evens
returns-clause-evens g c = λ k h. c.loop-k.invariant.pairs.evens_are k (omega arith)

pub returns-clause-odds : goal.returns-clause-odds
returns-clause-odds g c = λ k h. c.loop-k.invariant.pairs.odds_are k (omega arith)

pub bounds-low-0 : goal.bounds-low-0
bounds-low-0 g c = omega arith

pub bounds-high-0 : goal.bounds-high-0
bounds-high-0 g c = omega arith

pub bounds-high-0-2 : goal.bounds-high-0-2
bounds-high-0-2 g c = omega arith

pub overflow_sub-k-end : goal.overflow_sub-k-end
overflow_sub-k-end g c = omega arith

pub overflow_add-k : goal.overflow_add-k
overflow_add-k g c = omega arith

pub offset_bounds-low-k : goal.offset_bounds-low-k
offset_bounds-low-k g c = omega arith

pub bounds-low-k : goal.bounds-low-k
bounds-low-k g c = omega arith

pub offset_bounds-high-k : goal.offset_bounds-high-k
offset_bounds-high-k g c = omega arith

pub bounds-high-k : goal.bounds-high-k
bounds-high-k g c = omega arith

pub overflow_add-k-in-loop-k : goal.overflow_add-k-in-loop-k
overflow_add-k-in-loop-k g c = omega arith

pub offset_bounds-high-k-in-loop-k : goal.offset_bounds-high-k-in-loop-k
offset_bounds-high-k-in-loop-k g c = omega arith

pub bounds-high-k-in-loop-k : goal.bounds-high-k-in-loop-k
bounds-high-k-in-loop-k g c = omega arith

pub overflow_mul-sample : goal.overflow_mul-sample
overflow_mul-sample g c = omega arith

pub offset_bounds-out-k : goal.offset_bounds-out-k
offset_bounds-out-k g c = omega arith

pub bounds-out-k : goal.bounds-out-k
bounds-out-k g c = omega arith

pub offset_bounds-high-k-in-loop-k-2 : goal.offset_bounds-high-k-in-loop-k-2
offset_bounds-high-k-in-loop-k-2 g c = omega arith

pub bounds-high-k-in-loop-k-2 : goal.bounds-high-k-in-loop-k-2
bounds-high-k-in-loop-k-2 g c = omega arith

pub overflow_mul-k : goal.overflow_mul-k
overflow_mul-k g c = omega arith

pub overflow_add-k-in-loop-k-2 : goal.overflow_add-k-in-loop-k-2
overflow_add-k-in-loop-k-2 g c = omega arith

pub offset_bounds-out-k-in-loop-k : goal.offset_bounds-out-k-in-loop-k
offset_bounds-out-k-in-loop-k g c = omega arith
