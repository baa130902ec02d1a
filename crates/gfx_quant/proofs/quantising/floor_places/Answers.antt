use Rattle.std.proofs.Common.{◌<◌, ◌∙◌, length, FitsSigned, w32, arith, rules}
use Rattle.std.specs.Int.{int_shr}
use Rattle.std.proofs.lemmas.Int.{to_z-of_z}
use Rattle.gfx_dwt.specs.Ranges.{at}
use Rattle.gfx_quant.proofs.Steps.{maps_step}
use Rattle.gfx_quant.proofs.quantising.floor_places.Goals as goal

pub loop-place-preserved : goal.loop-place-preserved
loop-place-preserved c =
    let i = c.loop-place.place in
    let read : i < length c.args.values.now = omega arith in
    let inside : i < length c.loop-place.out = omega arith in
    let value : FitsSigned w32 (at c.args.values.now i) = search rules in
    let part : FitsSigned w32 c.floored.result = record { sfits = c.floored.type_inv } in
    maps_step (λ v. int_shr v c.args.bits) c.args.from i c.args.values.now c.args.out.now c.loop-place.out _ (omega arith) inside
    (to_z-of_z w32 c.floored.result part ∙ (simp to_z-of_z at c.floored.ensures)) c.loop-place.invariant
