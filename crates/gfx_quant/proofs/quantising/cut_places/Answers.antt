use Rattle.std.proofs.Common.{pos, ◌^◌, ◌<◌, ◌∙◌, length, FitsSigned, w32, arith, rules}
use Rattle.std.specs.Prelude.{int_div}
use Rattle.std.proofs.lemmas.Int.{to_z-of_z}
use Rattle.gfx_dwt.specs.Ranges.{at}
use Rattle.gfx_quant.proofs.Steps.{maps_step}
use Rattle.gfx_quant.proofs.quantising.cut_places.Goals as goal

pub loop-place-preserved : goal.loop-place-preserved
loop-place-preserved c =
    let i = c.loop-place.place in
    let read : i < length c.args.values.now = omega arith in
    let inside : i < length c.loop-place.out = omega arith in
    let value : FitsSigned w32 (at c.args.values.now i) = search rules in
    let part : FitsSigned w32 c.toward_zero.result = record { sfits = c.toward_zero.type_inv } in
    maps_step (λ v. int_div v (pos (2 ^ c.args.bits))) c.args.from i c.args.values.now c.args.out.now c.loop-place.out _ (omega arith) inside
    (to_z-of_z w32 c.toward_zero.result part ∙ (simp to_z-of_z at c.toward_zero.ensures)) c.loop-place.invariant
