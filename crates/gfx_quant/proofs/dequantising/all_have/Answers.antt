use Rattle.std.proofs.Common.{◌≡◌, ◌<◌, length, FitsSigned, w16, arith, rules}
use Rattle.std.proofs.lemmas.Int.{to_z-of_z}
use Rattle.gfx_dwt.specs.Ranges.{at}
use Rattle.gfx_quant.proofs.InRange.{no_span, spans_more, spans_decide}
use Rattle.gfx_quant.proofs.dequantising.all_have.Goals as goal

pub loop-place-init : goal.loop-place-init
loop-place-init c = no_span c.args.values.now c.args.from

pub loop-place-preserved : goal.loop-place-preserved
loop-place-preserved c =
    let i = c.loop-place.place in
    let values = c.args.values.now in
    let inside : i < length values = omega arith in
    let value : FitsSigned w16 (at values i) = search rules in
    let low : FitsSigned w16 c.lower-lowest.result = record { sfits = c.lower-lowest.type_inv } in
    let high : FitsSigned w16 c.higher-highest.result = record { sfits = c.higher-highest.type_inv } in
    let one = c.lower-lowest.ensures in
    let two = c.higher-highest.ensures in
    rw (to_z-of_z w16 c.lower-lowest.result low, to_z-of_z w16 c.higher-highest.result high)
    (spans_more values c.args.from i _ _ _ _ _ (omega arith) (to_z-of_z w16 (at values i) value) one.one one.other one.either two.one two.other two.either
    c.loop-place.invariant)

pub returns : goal.returns
returns c =
    let values = c.args.values.now in
    let least : FitsSigned w16 c.least-least.result = record { sfits = c.least-least.type_inv } in
    let most : FitsSigned w16 c.most-most.result = record { sfits = c.most-most.type_inv } in
    let end : c.loop-place.place ≡ c.args.to = omega arith in
    spans_decide c.args.position values c.args.from c.args.to _ _ c.least-least.result c.most-most.result c.is_between.result c.is_between-2.result c.least-least.ensures c.most-most.ensures
    (rw end at c.loop-place.invariant)
    (simp to_z-of_z at c.is_between.ensures) (simp to_z-of_z at c.is_between-2.ensures)
