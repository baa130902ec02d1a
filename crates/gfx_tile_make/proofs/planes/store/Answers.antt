use Rattle.std.proofs.Common.{◌≡◌, ◌<◌, ◌∙◌, length, length-set, FitsSigned, w16, w32, arith, rules}
use Rattle.std.proofs.lemmas.Int.{to_z-of_z}
use Rattle.gfx_dwt.specs.Ranges.{at}
use Rattle.gfx_quant.proofs.Steps.{written}
use Rattle.gfx_tile_make.proofs.ByBand.{same-planes}
use Rattle.gfx_tile_make.proofs.planes.store.Goals as goal

pub loop-place-preserved : goal.loop-place-preserved
loop-place-preserved c =
    let i = c.loop-place.place in
    let inside : i < length c.loop-place.out = omega (arith, c.loop-place.invariant.0) in
    let value : FitsSigned w32 (at c.args.plane.now i) = search rules in
    let result : FitsSigned w16 c.narrowed.result = record { sfits = c.narrowed.type_inv } in (
      length-set _ _ _ ∙ c.loop-place.invariant.0,
      written (λ k z. z ≡ at c.args.plane.now k) c.loop-place.out i _ inside (to_z-of_z w16 c.narrowed.result result ∙ (simp to_z-of_z at c.narrowed.ensures)) c.loop-place.invariant.1,
    )

pub returns : goal.returns
returns c = same-planes c.loop-place.out c.args.plane.now 4096 c.loop-place.invariant.0 (omega arith) (λ k h. c.loop-place.invariant.1 k (omega arith))
