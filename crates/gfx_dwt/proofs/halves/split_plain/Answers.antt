use Rattle.std.proofs.Common.{◌≡◌, ◌^◌, ◌+◌, ◌-◌, ◌*◌, ◌∙◌, sym, to_z, of_z, w32, lit<, arith}
use Rattle.gfx_dwt.specs.declared.layout.Transform.TheVariants.{Plain}
use Rattle.gfx_dwt.specs.Place.{high_size}
use Rattle.gfx_dwt.specs.Lifting.{high_of, low_of}
use Rattle.gfx_dwt.specs.Ranges.{at}
use Rattle.gfx_dwt.specs.Splitting.{differed, high_half, low_half}
use Rattle.gfx_dwt.proofs.Bounds.{bits_of_small, bits_of_within}
use Rattle.gfx_dwt.proofs.Edges.{plain_same}
use Rattle.gfx_dwt.proofs.Pairs.{put_next}
use Rattle.gfx_dwt.proofs.SplitLines.{high_inside, low_between, high_last_plain, low_last_plain}
use Rattle.gfx_dwt.proofs.halves.split_plain.Goals as goal

pub returns-clause-highs : goal.returns-clause-highs
returns-clause-highs c = λ l e k h.
    let same = plain_same l in
    let line = at c.args.line.now in
    let end = c.args.end in
    let size : end ≡ high_size Plain l - 1 = omega (arith, e, c.requires.end) in
    let halves = c.first_places-before in
    let e0 = bits_of_within (2 ^ 28) _ (lit< tt) (c.requires.line (2 * end) (omega arith)) in
    let e1 = bits_of_within (2 ^ 28) _ (lit< tt) (c.requires.line (2 * end + 1) (omega arith)) in
    let value : c.high_place-here.result ≡ high_of Plain (line (2 * end + 1)) (line (2 * end)) (line (2 * end)) = cc (c.high_place-here.ensures.value, e0, e1) in
    let last : c.high_place-here.result ≡ high_half Plain l line end = value ∙ rw size (sym (high_last_plain l line)) in
    put_next halves.new.high (high_half Plain l line) end _ (omega arith) (bits_of_small _ c.high_place-here.type_inv ∙ last)
    (λ j p. halves.ensures.highs j p ∙ sym (high_inside Plain l line j (omega arith))) k (omega arith)

pub returns-clause-lows : goal.returns-clause-lows
returns-clause-lows c = λ l e k h.
    let same = plain_same l in
    let line = at c.args.line.now in
    let end = c.args.end in
    let size : end ≡ high_size Plain l - 1 = omega (arith, e, c.requires.end) in
    let halves = c.first_places-before in
    let e0 = bits_of_within (2 ^ 28) _ (lit< tt) (c.requires.line (2 * end) (omega arith)) in
    let e1 = bits_of_within (2 ^ 28) _ (lit< tt) (c.requires.line (2 * end + 1) (omega arith)) in
    let here : to_z w32 (of_z w32 c.high_place-here.result) ≡ c.high_place-here.result = bits_of_small _ c.high_place-here.type_inv in
    let before : to_z w32 (of_z w32 halves.result) ≡ halves.result = bits_of_small _ halves.type_inv in
    let value : c.high_place-here.result ≡ high_of Plain (line (2 * end + 1)) (line (2 * end)) (line (2 * end)) = cc (c.high_place-here.ensures.value, e0, e1) in
    let last : c.high_place-here.result ≡ high_half Plain l line end = value ∙ rw size (sym (high_last_plain l line)) in
    let low : c.low_place.result ≡ low_of Plain (line (2 * end)) (differed Plain line (end - 1)) (high_half Plain l line end) = cc (c.low_place.ensures, e0, here, before, last, halves.ensures.last) in
    let is_low : c.low_place.result ≡ low_half Plain l line end = low ∙ rw size (sym (low_last_plain l line)) in
    put_next halves.new.low (low_half Plain l line) end _ (omega arith) (bits_of_small _ c.low_place.type_inv ∙ is_low)
    (λ j p. halves.ensures.lows j p ∙ sym (low_between Plain l line j (omega arith))) k (omega arith)
