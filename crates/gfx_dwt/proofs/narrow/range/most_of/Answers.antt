use Rattle.std.proofs.Common.{◌≡◌, ◌<◌, length, FitsSigned, w16, arith, rules}
use Rattle.std.proofs.lemmas.Int.{to_z-of_z}
use Rattle.gfx_dwt.specs.Ranges.{at}
use Rattle.gfx_dwt.proofs.Bounds.{bits_of_short}
use Rattle.gfx_dwt.proofs.Spans.{no_span, spans_all, spans_least, spans_more}
use Rattle.gfx_dwt.proofs.narrow.range.most_of.Goals as goal

pub loop-place-init : goal.loop-place-init
loop-place-init c = no_span c.args.values.now

pub loop-place-preserved : goal.loop-place-preserved
loop-place-preserved c =
    let i = c.loop-place.place in
    let values = c.args.values.now in
    let inside : i < length values = omega arith in
    let value : FitsSigned w16 (at values i) = search rules in
    let one = c.lower-lowest.ensures in
    let two = c.higher-highest.ensures in
    rw (bits_of_short c.lower-lowest.result c.lower-lowest.type_inv, bits_of_short c.higher-highest.result c.higher-highest.type_inv)
    (spans_more values i _ _ _ _ _ (to_z-of_z w16 (at values i) value) one.one one.other one.kept two.one two.other two.kept c.loop-place.invariant)

pub returns-clause-all : goal.returns-clause-all
returns-clause-all c =
    let end : c.loop-place.place ≡ length c.args.values.now = omega arith in
    rw c.greatest_of.ensures (spans_all c.args.values.now _ _ (rw end at c.loop-place.invariant))

pub returns-clause-least : goal.returns-clause-least
returns-clause-least c =
    let end : c.loop-place.place ≡ length c.args.values.now = omega arith in
    rw c.greatest_of.ensures (spans_least c.args.values.now _ _ (rw end at c.loop-place.invariant))
