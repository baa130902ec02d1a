use Rattle.std.proofs.Common.{ap, refl, sym}
use Rattle.std.specs.Prelude.{slice_index}
use Rattle.gfx_quant.specs.Coefficient.{coefficient_of}
use Rattle.gfx_quant.proofs.Everywhere.{band_have}
use Rattle.gfx_quant.proofs.InBands.{maps_more}
use Rattle.gfx_quant.proofs.dequantising.narrow_plane.Goals as goal

pub narrow_band-requires-clause-fits : goal.narrow_band-requires-clause-fits
narrow_band-requires-clause-fits c =
    band_have c.args.transform c.args.positions.now c.args.plane.now c.nth_band-band.result _ c.band_start-start.result c.band_size.result
    (ap (slice_index c.args.positions.now) (sym c.nth_band-band.ensures)) c.band_start-start.ensures c.band_size.ensures c.requires.fits

pub loop-index-preserved : goal.loop-index-preserved
loop-index-preserved c =
    let e = ap (slice_index c.args.positions.now) (sym c.nth_band-band.ensures) in
    maps_more c.loop-index.index c.args.transform _ (λ v. coefficient_of v (slice_index c.args.positions.now c.loop-index.index)) c.nth_band-band.result c.band_start-start.result c.band_size.result c.args.plane.now c.args.plane.now c.args.out.now c.loop-index.out _
    c.nth_band-band.ensures c.band_start-start.ensures c.band_size.ensures (λ v. ap (coefficient_of v) e) (λ k lies. refl) c.loop-index.invariant c.narrow_band.ensures
