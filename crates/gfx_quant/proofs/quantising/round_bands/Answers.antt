use Rattle.std.proofs.Common.{ap, sym, refl}
use Rattle.std.specs.Prelude.{slice_index}
use Rattle.gfx_quant.specs.declared.rounding.Rounding.TheVariants.{Nearest}
use Rattle.gfx_quant.specs.Coefficient.{quantised}
use Rattle.gfx_quant.proofs.InBands.{maps_more}
use Rattle.gfx_quant.proofs.quantising.round_bands.Goals as goal

pub loop-index-preserved : goal.loop-index-preserved
loop-index-preserved c =
    let e = ap (slice_index c.args.base.now) (sym c.nth_band-band.ensures) in
    maps_more c.loop-index.index c.args.transform _ (λ z. quantised Nearest c.nth_band-band.result z (slice_index c.args.base.now c.loop-index.index)) c.nth_band-band.result c.band_start-start.result c.band_size.result c.args.coefficients.now c.args.coefficients.now c.args.out.now c.loop-index.out _
    c.nth_band-band.ensures c.band_start-start.ensures c.band_size.ensures (λ z. ap (quantised Nearest c.nth_band-band.result z) e) (λ k lies. refl) c.loop-index.invariant c.round_places.ensures
