use Rattle.std.proofs.Common.{◌≡◌, ◌≤◌, true, false, FitsSigned, w16, w32, arith, rules}
use Rattle.std.proofs.lemmas.Int.{to_z-of_z}
use Rattle.gfx_dwt.specs.Ranges.{at}
use Rattle.gfx_tile_make.specs.Fitting.{fits_at}
use Rattle.gfx_tile_make.proofs.Places.{one-more, tested}
use Rattle.gfx_tile_make.proofs.fitting.band_fits.Goals as goal

pub loop-place-init : goal.loop-place-init
loop-place-init c = λ k a b. absurd (omega arith)

pub loop-place-preserved : goal.loop-place-preserved
loop-place-preserved c =
    let i = c.loop-place.place in
    let kept : FitsSigned w16 (at c.args.kept.now i) = search rules in
    let value : FitsSigned w32 (at c.args.values.now i) = search rules in
    let test = fits_at c.args.band c.args.base c.args.level (at c.args.kept.now i) (at c.args.values.now i) in
    let order : c.args.from ≤ i = omega arith in
    one-more
    (λ k. c.args.from ≤ k → fits_at c.args.band c.args.base c.args.level (at c.args.kept.now k) (at c.args.values.now k) ≡ true)
    (λ k. (c.args.from ≤ k) × (fits_at c.args.band c.args.base c.args.level (at c.args.kept.now k) (at c.args.values.now k) ≡ false))
    i c.loop-place.fits c.place_fits-fits.result c.loop-place.invariant (tested c.args.from i c.place_fits-fits.result test order (simp to_z-of_z at c.place_fits-fits.ensures))
