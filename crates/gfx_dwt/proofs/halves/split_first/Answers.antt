use Rattle.std.proofs.Common.{◌≡◌, ◌^◌, ◌∙◌, sym, length-set, ℤ, pos, to_z, of_z, w32, lit<, lit≤, arith}
use Rattle.gfx_dwt.specs.declared.layout.Transform.TheVariants.{Reduced}
use Rattle.gfx_dwt.specs.declared.layout.Scale.TheVariants.{First}
use Rattle.gfx_dwt.specs.Lifting.{low_of}
use Rattle.gfx_dwt.specs.Ranges.{at}
use Rattle.gfx_dwt.specs.Splitting.{beyond, differed, low_half}
use Rattle.gfx_dwt.proofs.Bounds.{bits_of_small, bits_of_within}
use Rattle.gfx_dwt.proofs.Pairs.{put_next}
use Rattle.gfx_dwt.proofs.Same.{within_more}
use Rattle.gfx_dwt.proofs.SplitLines.{high_inside, low_between, low_first_31, low_first_32}
use Rattle.gfx_dwt.proofs.halves.split_first.Goals as goal

pub low_place-requires-clause-even : goal.low_place-requires-clause-even
low_place-requires-clause-even c =
    let h = c.requires.line 62 (omega arith) in
    rw (bits_of_within (2 ^ 28) _ (lit< tt) h) (within_more (2 ^ 28) (2 ^ 30) _ (lit≤ tt) h)

pub returns-clause-highs : goal.returns-clause-highs
returns-clause-highs c = λ k h.
    c.first_places-before.ensures.highs k (omega arith) ∙ sym (high_inside Reduced First (at c.args.line.now) k (omega arith))

pub returns-clause-lows : goal.returns-clause-lows
returns-clause-lows c = λ k h.
    let line = at c.args.line.now in
    let halves = c.first_places-before in
    let e62 = bits_of_within (2 ^ 28) _ (lit< tt) (c.requires.line 62 (omega arith)) in
    let e63 = bits_of_within (2 ^ 28) _ (lit< tt) (c.requires.line 63 (omega arith)) in
    let before : to_z w32 (of_z w32 halves.result) ≡ halves.result = bits_of_small _ halves.type_inv in
    let last : to_z w32 (of_z w32 c.beyond-last.result) ≡ c.beyond-last.result = bits_of_small _ c.beyond-last.type_inv in
    let low : c.low_place.result ≡ low_of Reduced (line 62) (differed Reduced line 30) (pos 0) = cc (c.low_place.ensures, e62, before, halves.ensures.last) in
    let far : c.beyond-last.result ≡ beyond (line 62) (line 63) = cc (c.beyond-last.ensures.value, e62, e63) in
    let low_2 : c.low_place-2.result ≡ low_of Reduced (beyond (line 62) (line 63)) (pos 0) (pos 0) = cc (c.low_place-2.ensures, last, far) in
    put_next _ (low_half Reduced First line) 32 _ (omega (arith, length-set {A = ℤ})) (bits_of_small _ c.low_place-2.type_inv ∙ low_2 ∙ sym (low_first_32 line))
    (put_next halves.new.low (low_half Reduced First line) 31 _ (omega arith) (bits_of_small _ c.low_place.type_inv ∙ low ∙ sym (low_first_31 line))
    (λ j p. halves.ensures.lows j p ∙ sym (low_between Reduced First line j (omega arith))))
    k (omega arith)
