use Rattle.std.proofs.Common.{◌≡◌, ◌∙◌, ◌+ℤ◌, FitsSigned, w16, w32, to_z, of_z, rules}
use Rattle.std.proofs.lemmas.Int.{to_z-of_z}
use Rattle.gfx_dwt.specs.Ranges.{at}
use Rattle.gfx_quant.specs.Coefficient.{is_coefficient}
use Rattle.gfx_tile_state.proofs.Places.{more-fits}
use Rattle.gfx_tile_state.proofs.planes.fit_together.Goals as goal

pub loop-place-preserved : goal.loop-place-preserved
loop-place-preserved c =
    let i = c.loop-place.place in
    let one : FitsSigned w32 (at c.args.kept.now i) = search rules in
    let other : FitsSigned w16 (at c.args.plane.now i) = search rules in
    let wide : FitsSigned w32 c.widened.result = record { sfits = c.widened.type_inv } in
    let here : to_z w32 (of_z w32 c.widened.result) ≡ at c.args.plane.now i =
    to_z-of_z w32 c.widened.result wide ∙ c.widened.ensures.value ∙ to_z-of_z w16 (at c.args.plane.now i) other in
    more-fits (λ k. is_coefficient (at c.args.kept.now k +ℤ at c.args.plane.now k)) i c.loop-place.fits c.fit_both-fits.result
    (rw (here, to_z-of_z w32 (at c.args.kept.now i) one) at c.fit_both-fits.ensures) c.loop-place.invariant
