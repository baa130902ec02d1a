use Rattle.std.proofs.Common.{refl, arith}
use Rattle.gfx_tile_state.proofs.Bands.{ends}
use Rattle.gfx_tile_make.proofs.Places.{more-bands}
use Rattle.gfx_tile_make.proofs.fitting.plane_fits.Goals as goal

pub loop-index-preserved : goal.loop-index-preserved
loop-index-preserved c =
    more-bands c.args.transform c.args.base.now c.args.level.now c.args.kept.now c.args.values.now c.nth_band-band.result c.loop-index.index c.band_start-start.result c.band_size.result _ _ c.loop-index.fits c.band_fits-fits.result
    c.nth_band-band.ensures c.band_start-start.ensures c.band_size.ensures refl refl c.loop-index.invariant c.band_fits-fits.ensures

pub band_fits-fits-requires-clause-end : goal.band_fits-fits-requires-clause-end
band_fits-fits-requires-clause-end c = omega (arith, c.band_start-start.ensures, c.band_size.ensures, ends c.args.transform c.nth_band-band.result)
