use Rattle.std.proofs.Common.{◌<◌, ◌≡◌, ◌∙◌, length, FitsSigned, w16, arith, rules}
use Rattle.std.proofs.lemmas.Int.{to_z-of_z}
use Rattle.gfx_dwt.specs.Ranges.{at}
use Rattle.gfx_quant.specs.Coefficient.{coefficient_of}
use Rattle.gfx_quant.proofs.Steps.{maps_step}
use Rattle.gfx_quant.proofs.dequantising.narrow.Goals as goal

pub loop-place-preserved : goal.loop-place-preserved
loop-place-preserved c =
    let i = c.loop-place.place in
    let source = c.args.values.now in
    let now = c.loop-place.out in
    let inside : i < length now = omega arith in
    let there : i < length source = omega arith in
    let value : FitsSigned w16 (at source i) = search rules in
    let product : FitsSigned w16 c.scaled.result = record { sfits = c.scaled.type_inv } in
    let here : c.scaled.result ≡ coefficient_of (at source i) c.args.position = simp to_z-of_z at c.scaled.ensures in
    maps_step (λ v. coefficient_of v c.args.position) c.args.from i source c.args.out.now now _ (omega arith) inside (to_z-of_z w16 c.scaled.result product ∙ here) c.loop-place.invariant
