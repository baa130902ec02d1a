use Rattle.std.proofs.Common.{◌≡◌, ◌^◌, ◌∙◌, to_z, of_z, w32, lit<, arith}
use Rattle.gfx_dwt.specs.Lifting.{high_of, low_of}
use Rattle.gfx_dwt.specs.Ranges.{at}
use Rattle.gfx_dwt.proofs.Bounds.{bits_of_small, bits_of_within}
use Rattle.gfx_dwt.proofs.Pairs.{put_keeps, put_next}
use Rattle.gfx_dwt.proofs.kernels.divide_by.Goals as goal

pub loop-k-preserved : goal.loop-k-preserved
loop-k-preserved g c =
    let k = c.loop-k.k in
    let even = at c.args.even.now in
    let odd = at c.args.odd.now in
    let next = at c.args.next.now in
    let known = at c.args.known.now in
    let before = c.loop-k.invariant in
    let e1 = bits_of_within (2 ^ 28) _ (lit< tt) (c.requires.even k (omega arith)) in
    let e2 = bits_of_within (2 ^ 28) _ (lit< tt) (c.requires.odd k (omega arith)) in
    let e3 = bits_of_within (2 ^ 28) _ (lit< tt) (c.requires.next k (omega arith)) in
    let e4 = bits_of_within (2 ^ 28) _ (lit< tt) (c.requires.known k (omega arith)) in
    let same : at c.loop-k.known k ≡ known k = before.kept k (omega arith) in
    let high : to_z w32 (of_z w32 c.high_place-here.result) ≡ c.high_place-here.result = bits_of_small _ c.high_place-here.type_inv in
    let here : c.high_place-here.result ≡ high_of g.L.Lifting.transform (odd k) (even k) (next k) = cc (c.high_place-here.ensures.value, e1, e2, e3) in
    let low : c.low_place.result ≡ low_of g.L.Lifting.transform (even k) (known k) (high_of g.L.Lifting.transform (odd k) (even k) (next k)) = cc (c.low_place.ensures, e1, e4, same, high, here) in
    record {
      kept = put_keeps _ _ k _ before.kept;
      known = put_next _ _ k _ (omega arith) (high ∙ here) before.known;
      highs = put_next _ _ k _ (omega arith) (high ∙ here) before.highs;
      lows = put_next _ _ k _ (omega arith) (bits_of_small _ c.low_place.type_inv ∙ low) before.lows;
    }

pub offset_bounds-even-k : goal.offset_bounds-even-k
offset_bounds-even-k g c = omega arith

pub bounds-even-k : goal.bounds-even-k
bounds-even-k g c = omega arith

pub offset_bounds-known-k : goal.offset_bounds-known-k
offset_bounds-known-k g c = omega arith

pub bounds-known-k : goal.bounds-known-k
bounds-known-k g c = omega arith

pub offset_bounds-odd-k : goal.offset_bounds-odd-k
offset_bounds-odd-k g c = omega arith

pub bounds-odd-k : goal.bounds-odd-k
bounds-odd-k g c = omega arith

pub offset_bounds-next-k : goal.offset_bounds-next-k
offset_bounds-next-k g c = omega arith

pub bounds-next-k : goal.bounds-next-k
bounds-next-k g c = omega arith

pub offset_bounds-known-k-in-loop-k : goal.offset_bounds-known-k-in-loop-k
offset_bounds-known-k-in-loop-k g c = omega arith

pub offset_bounds-high-k : goal.offset_bounds-high-k
offset_bounds-high-k g c = omega arith

pub bounds-high-k : goal.bounds-high-k
bounds-high-k g c = omega arith

pub offset_bounds-low-k : goal.offset_bounds-low-k
offset_bounds-low-k g c = omega arith

pub bounds-low-k : goal.bounds-low-k
bounds-low-k g c = omega arith
