use Rattle.std.proofs.Common.{◌-◌, ap, sym, refl}
use Rattle.std.specs.Prelude.{slice_index}
use Rattle.gfx_quant.specs.Coefficient.{truncated}
use Rattle.gfx_quant.proofs.InBands.{maps_more}
use Rattle.gfx_quant.proofs.quantising.truncate_bands.Goals as goal

pub loop-index-preserved : goal.loop-index-preserved
loop-index-preserved c =
    let e = ap (λ n. slice_index c.args.numbers.now n - c.args.fewer) (sym c.nth_band-band.ensures) in
    maps_more c.loop-index.index c.args.transform _ (λ v. truncated c.nth_band-band.result v (slice_index c.args.numbers.now c.loop-index.index - c.args.fewer)) c.nth_band-band.result c.band_start-start.result c.band_size.result c.args.values.now c.args.values.now c.args.out.now c.loop-index.out _
    c.nth_band-band.ensures c.band_start-start.ensures c.band_size.ensures (λ v. ap (truncated c.nth_band-band.result v) e) (λ k lies. refl) c.loop-index.invariant c.truncate_places.ensures
