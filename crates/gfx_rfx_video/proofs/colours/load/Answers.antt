use Rattle.std.proofs.Common.{◌≡◌, ◌<◌, ◌∙◌, length, length-set, FitsSigned, w16, w32, arith, rules}
use Rattle.std.proofs.lemmas.Int.{to_z-of_z}
use Rattle.gfx_dwt.specs.Ranges.{IsCoefficient, at}
use Rattle.gfx_quant.proofs.Steps.{written}
use Rattle.gfx_tile_state.proofs.Places.{same-plane}
use Rattle.gfx_rfx_video.proofs.colours.load.Goals as goal

pub loop-place-preserved : goal.loop-place-preserved
loop-place-preserved c =
    let i = c.loop-place.place in
    let inside : i < length c.loop-place.out = omega (arith, c.loop-place.invariant.0) in
    let value : FitsSigned w16 (at c.args.from.now i) = search rules in
    let result : FitsSigned w32 c.widened.result = record { sfits = c.widened.type_inv } in (
      length-set _ _ _ ∙ c.loop-place.invariant.0,
      written (λ k z. z ≡ at c.args.from.now k) c.loop-place.out i _ inside (to_z-of_z w32 c.widened.result result ∙ (simp to_z-of_z at c.widened.ensures.value)) c.loop-place.invariant.1,
      written (λ k z. IsCoefficient z) c.loop-place.out i _ inside (rw (to_z-of_z w32 c.widened.result result) c.widened.ensures.small) c.loop-place.invariant.2,
    )

pub returns-clause-value : goal.returns-clause-value
returns-clause-value c = same-plane c.loop-place.out c.args.from.now 4096 c.loop-place.invariant.0 (omega arith) (λ k h. c.loop-place.invariant.1 k (omega arith))

pub returns-clause-coefficients : goal.returns-clause-coefficients
returns-clause-coefficients c = λ k h. c.loop-place.invariant.2 k (omega (arith, c.loop-place.invariant.0))
