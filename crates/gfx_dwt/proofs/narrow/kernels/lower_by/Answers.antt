use Rattle.std.proofs.Common.{◌≡◌, ◌∙◌, lit<, arith}
use Rattle.gfx_dwt.specs.Lifting.{even_of}
use Rattle.gfx_dwt.specs.Ranges.{at}
use Rattle.gfx_dwt.proofs.Bounds.{bits_of_short, bits_of_narrow}
use Rattle.gfx_dwt.proofs.Pairs.{put_next}
use Rattle.gfx_dwt.proofs.narrow.kernels.lower_by.Goals as goal

pub loop-k-preserved : goal.loop-k-preserved
loop-k-preserved g c =
    let k = c.loop-k.k in
    let low = at c.args.low.now in
    let before = at c.args.before.now in
    let here = at c.args.here.now in
    let e1 = bits_of_narrow 16382 _ (lit< tt) (c.requires.low k (omega arith)) in
    let e2 = bits_of_narrow 8191 _ (lit< tt) (c.requires.before k (omega arith)) in
    let e3 = bits_of_narrow 8191 _ (lit< tt) (c.requires.here k (omega arith)) in
    let value : c.even_sample.result ≡ even_of g.L.NarrowLifting.transform (low k) (before k) (here k) = cc (c.even_sample.ensures.value, e1, e2, e3) in
    put_next _ _ k _ (omega arith) (bits_of_short _ c.even_sample.type_inv ∙ value) c.loop-k.invariant

pub offset_bounds-low-k : goal.offset_bounds-low-k
offset_bounds-low-k g c = omega arith

pub bounds-low-k : goal.bounds-low-k
bounds-low-k g c = omega arith

pub offset_bounds-before-k : goal.offset_bounds-before-k
offset_bounds-before-k g c = omega arith

pub bounds-before-k : goal.bounds-before-k
bounds-before-k g c = omega arith

pub offset_bounds-here-k : goal.offset_bounds-here-k
offset_bounds-here-k g c = omega arith

pub bounds-here-k : goal.bounds-here-k
bounds-here-k g c = omega arith

pub offset_bounds-out-k : goal.offset_bounds-out-k
offset_bounds-out-k g c = omega arith

pub bounds-out-k : goal.bounds-out-k
bounds-out-k g c = omega arith
