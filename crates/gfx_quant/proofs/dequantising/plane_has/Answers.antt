use Rattle.std.proofs.Common.{ap, refl, sym}
use Rattle.std.specs.Prelude.{slice_index}
use Rattle.gfx_dwt.specs.Place.{size, start}
use Rattle.gfx_quant.proofs.InBands.{more_bands}
use Rattle.gfx_quant.proofs.dequantising.plane_has.Goals as goal

pub loop-index-preserved : goal.loop-index-preserved
loop-index-preserved c =
    more_bands c.loop-index.index c.args.transform c.args.positions.now c.args.plane.now c.nth_band-band.result _ (start c.args.transform c.nth_band-band.result) (size c.args.transform c.nth_band-band.result) c.loop-index.fits c.band_fits-fits.result
    c.nth_band-band.ensures (ap (slice_index c.args.positions.now) (sym c.nth_band-band.ensures)) refl refl c.loop-index.invariant c.band_fits-fits.ensures
