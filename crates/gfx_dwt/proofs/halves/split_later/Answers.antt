use Rattle.std.proofs.Common.{◌≡◌, ◌^◌, ◌-◌, ◌*◌, ◌∙◌, sym, to_z, of_z, w32, lit<, arith}
use Rattle.gfx_dwt.specs.declared.layout.Transform.TheVariants.{Reduced}
use Rattle.gfx_dwt.specs.Place.{high_size}
use Rattle.gfx_dwt.specs.Lifting.{low_of}
use Rattle.gfx_dwt.specs.Ranges.{at}
use Rattle.gfx_dwt.specs.Splitting.{differed, low_half}
use Rattle.gfx_dwt.proofs.Bounds.{bits_of_small, bits_of_within}
use Rattle.gfx_dwt.proofs.Pairs.{put_next}
use Rattle.gfx_dwt.proofs.SplitLines.{high_inside, low_between, low_later}
use Rattle.gfx_dwt.proofs.halves.split_later.Goals as goal

pub returns-clause-highs : goal.returns-clause-highs
returns-clause-highs c = λ l e f k h.
    let line = at c.args.line.now in
    c.first_places-before.ensures.highs k (omega arith) ∙ sym (high_inside Reduced l line k (omega arith))

pub returns-clause-lows : goal.returns-clause-lows
returns-clause-lows c = λ l e f k h.
    let line = at c.args.line.now in
    let m = c.args.count in
    let size : m ≡ high_size Reduced l = omega (arith, e, c.requires.count) in
    let halves = c.first_places-before in
    let e0 = bits_of_within (2 ^ 28) _ (lit< tt) (c.requires.line (2 * m) (omega arith)) in
    let before : to_z w32 (of_z w32 halves.result) ≡ halves.result = bits_of_small _ halves.type_inv in
    let low : c.low_place.result ≡ low_of Reduced (line (2 * m)) (differed Reduced line (m - 1)) (differed Reduced line (m - 1)) = cc (c.low_place.ensures, e0, before, halves.ensures.last) in
    let is_low : c.low_place.result ≡ low_half Reduced l line m = low ∙ rw size (sym (low_later l line (omega arith))) in
    put_next halves.new.low (low_half Reduced l line) m _ (omega arith) (bits_of_small _ c.low_place.type_inv ∙ is_low)
    (λ j p. halves.ensures.lows j p ∙ sym (low_between Reduced l line j (omega arith))) k (omega arith)
