use Rattle.std.proofs.Common.{◌+ℤ◌, FitsSigned, w16, rules}
use Rattle.std.proofs.lemmas.Int.{to_z-of_z}
use Rattle.gfx_dwt.specs.Ranges.{at}
use Rattle.gfx_quant.specs.Coefficient.{is_coefficient}
use Rattle.gfx_tile_state.proofs.Places.{more-fits}
use Rattle.gfx_tile_state.proofs.planes.fits_onto.Goals as goal

pub loop-place-preserved : goal.loop-place-preserved
loop-place-preserved c =
    let i = c.loop-place.place in
    let one : FitsSigned w16 (at c.args.kept.now i) = search rules in
    let other : FitsSigned w16 (at c.args.plane.now i) = search rules in
    more-fits (λ k. is_coefficient (at c.args.kept.now k +ℤ at c.args.plane.now k)) i c.loop-place.fits c.fits_on-fits.result (simp to_z-of_z at c.fits_on-fits.ensures) c.loop-place.invariant
