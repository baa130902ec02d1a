use Rattle.std.proofs.Common.{◌≡◌, ◌+◌, ◌∙◌, to_z, of_z, w16, lit<, arith}
use Rattle.gfx_dwt.specs.Lifting.{odd_of}
use Rattle.gfx_dwt.specs.Ranges.{at}
use Rattle.gfx_dwt.proofs.Bounds.{bits_of_short, bits_of_narrow}
use Rattle.gfx_dwt.proofs.Pairs.{pair_put}
use Rattle.gfx_dwt.proofs.narrow.lines.pairs_by.Goals as goal

pub loop-k-preserved : goal.loop-k-preserved
loop-k-preserved g c =
    let k = c.loop-k.k in
    let edges = at c.args.edges.now in
    let evens = at c.args.evens.now in
    let e1 : to_z w16 (of_z w16 (edges (k + 1))) ≡ edges (k + 1) = bits_of_narrow 8191 _ (lit< tt) (c.requires.edges (k + 1) (omega arith)) in
    let e2 : to_z w16 (of_z w16 (evens k)) ≡ evens k = bits_of_narrow 16382 _ (lit< tt) (c.requires.evens k (omega arith)) in
    let e3 : to_z w16 (of_z w16 (evens (k + 1))) ≡ evens (k + 1) = bits_of_narrow 16382 _ (lit< tt) (c.requires.evens (k + 1) (omega arith)) in
    let value : c.odd_sample.result ≡ odd_of g.L.NarrowLifting.transform (edges (k + 1)) (evens k) (evens (k + 1)) = cc (c.odd_sample.ensures, e1, e2, e3) in
    pair_put _ evens _ k _ _ (omega arith) e2 (bits_of_short _ c.odd_sample.type_inv ∙ value) c.loop-k.invariant
