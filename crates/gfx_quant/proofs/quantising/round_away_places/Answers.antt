use Rattle.std.proofs.Common.{◌<◌, ◌∙◌, length, FitsSigned, w32, arith, rules}
use Rattle.std.proofs.lemmas.Int.{to_z-of_z}
use Rattle.gfx_dwt.specs.declared.layout.Band.TheVariants.{Hl1}
use Rattle.gfx_dwt.specs.Ranges.{at}
use Rattle.gfx_quant.specs.Coefficient.{capped, nearest}
use Rattle.gfx_quant.proofs.Steps.{maps_step}
use Rattle.gfx_quant.proofs.quantising.round_away_places.Goals as goal

pub loop-place-preserved : goal.loop-place-preserved
loop-place-preserved c =
    let i = c.loop-place.place in
    let read : i < length c.args.values.now = omega arith in
    let inside : i < length c.loop-place.out = omega arith in
    let value : FitsSigned w32 (at c.args.values.now i) = search rules in
    let part : FitsSigned w32 c.rounded_away.result = record { sfits = c.rounded_away.type_inv } in
    maps_step (λ c'. capped (nearest Hl1 c' c.args.base) c.args.base) c.args.from i c.args.values.now c.args.out.now c.loop-place.out _ (omega arith) inside
    (to_z-of_z w32 c.rounded_away.result part ∙ (simp to_z-of_z at c.rounded_away.ensures)) c.loop-place.invariant
