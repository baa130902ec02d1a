use Rattle.std.proofs.Common.{◌≡◌, ◌^◌, ◌+◌, ◌-◌, ◌*◌, ◌∙◌, refl, to_z, of_z, w32, lit<, lit≤, arith}
use Rattle.gfx_dwt.specs.Lifting.{high_of, low_of}
use Rattle.gfx_dwt.specs.Ranges.{at}
use Rattle.gfx_dwt.specs.Splitting.{differed}
use Rattle.gfx_dwt.proofs.Bounds.{bits_of_small, bits_of_within}
use Rattle.gfx_dwt.proofs.Pairs.{put_next}
use Rattle.gfx_dwt.proofs.Same.{within_more}
use Rattle.gfx_dwt.proofs.halves.first_places.Goals as goal

pub low_place-requires-clause-even : goal.low_place-requires-clause-even
low_place-requires-clause-even g c =
    rw c.loop-k.invariant.even (within_more (2 ^ 28) (2 ^ 30) _ (lit≤ tt) (c.requires.line (2 * c.loop-k.k) (omega arith)))

pub loop-k-init : goal.loop-k-init
unfolding differed
loop-k-init g c =
    let line = at c.args.line.now in
    let e0 = bits_of_within (2 ^ 28) _ (lit< tt) (c.requires.line 0 (omega arith)) in
    let e1 = bits_of_within (2 ^ 28) _ (lit< tt) (c.requires.line 1 (omega arith)) in
    let e2 = bits_of_within (2 ^ 28) _ (lit< tt) (c.requires.line 2 (omega arith)) in
    let first : to_z w32 (of_z w32 c.high_place-before.result) ≡ c.high_place-before.result = bits_of_small _ c.high_place-before.type_inv in
    let value : c.high_place-before.result ≡ high_of g.L.Lifting.transform (line 1) (line 0) (line 2) = cc (c.high_place-before.ensures.value, e0, e1, e2) in
    record {
      even = e0;
      last = first ∙ value;
      small = rw first c.high_place-before.ensures.small;
      lows = λ j h. absurd (omega arith);
      highs = λ j h. absurd (omega arith);
    }

pub loop-k-preserved : goal.loop-k-preserved
unfolding differed
loop-k-preserved g c =
    let k = c.loop-k.k in
    let line = at c.args.line.now in
    let e0 = c.loop-k.invariant.even in
    let e1 = bits_of_within (2 ^ 28) _ (lit< tt) (c.requires.line (2 * k + 1) (omega arith)) in
    let e2 = bits_of_within (2 ^ 28) _ (lit< tt) (c.requires.line (2 * k + 2) (omega arith)) in
    let e4 : k + 1 - 1 ≡ k = omega arith in
    let e5 : 2 * (k + 1) ≡ 2 * k + 2 = omega arith in
    let high : to_z w32 (of_z w32 c.high_place-here.result) ≡ c.high_place-here.result = bits_of_small _ c.high_place-here.type_inv in
    let here : c.high_place-here.result ≡ high_of g.L.Lifting.transform (line (2 * k + 1)) (line (2 * k)) (line (2 * k + 2)) = cc (c.high_place-here.ensures.value, e0, e1, e2) in
    let low : c.low_place.result ≡ low_of g.L.Lifting.transform (line (2 * k)) (differed g.L.Lifting.transform line (k - 1)) (differed g.L.Lifting.transform line k) = cc (c.low_place.ensures, e0, high, here, c.loop-k.invariant.last) in
    record {
      even = e2 ∙ rw e5 refl;
      last = high ∙ here ∙ rw e4 refl;
      small = rw high c.high_place-here.ensures.small;
      lows = put_next _ _ k _ (omega arith) (bits_of_small _ c.low_place.type_inv ∙ low) c.loop-k.invariant.lows;
      highs = put_next _ _ k _ (omega arith) (high ∙ here) c.loop-k.invariant.highs;
    }

pub bounds-line-0 : goal.bounds-line-0
bounds-line-0 g c = omega arith

pub bounds-line-1 : goal.bounds-line-1
bounds-line-1 g c = omega arith

pub bounds-line-2 : goal.bounds-line-2
bounds-line-2 g c = omega arith

pub overflow_mul-next : goal.overflow_mul-next
overflow_mul-next g c = omega arith

pub overflow_add-next : goal.overflow_add-next
overflow_add-next g c = omega arith

pub offset_bounds-line-k : goal.offset_bounds-line-k
offset_bounds-line-k g c = omega arith

pub bounds-line-k : goal.bounds-line-k
bounds-line-k g c = omega arith

pub overflow_mul-k : goal.overflow_mul-k
overflow_mul-k g c = omega arith

pub overflow_add-k : goal.overflow_add-k
overflow_add-k g c = omega arith

pub offset_bounds-line-k-in-loop-k : goal.offset_bounds-line-k-in-loop-k
offset_bounds-line-k-in-loop-k g c = omega arith

pub bounds-line-k-in-loop-k : goal.bounds-line-k-in-loop-k
bounds-line-k-in-loop-k g c = omega arith

pub offset_bounds-high-k : goal.offset_bounds-high-k
offset_bounds-high-k g c = omega arith

pub bounds-high-k : goal.bounds-high-k
bounds-high-k g c = omega arith

pub offset_bounds-low-k : goal.offset_bounds-low-k
offset_bounds-low-k g c = omega arith

pub bounds-low-k : goal.bounds-low-k
bounds-low-k g c = omega arith
