use Rattle.std.proofs.Common.{◌≡◌, ◌∙◌, ◌+◌, ◌&&◌, ap, sym, subst, refl}
use Rattle.gfx_dwt.specs.Place.{start}
use Rattle.gfx_tile_state.specs.Entries.{Upgraded, pass_of}
use Rattle.gfx_tile_state.proofs.Bands.{front, front-more, band-alike}
use Rattle.gfx_tile_state.proofs.upgrading.upgrade_plane.Goals as goal

pub loop-index-preserved : goal.loop-index-preserved
loop-index-preserved c =
    let t = c.args.transform in
    let band = c.nth_band-band.result in
    let from = c.band_start-start.result in
    let to = from + c.band_size.result in
    let ends : to ≡ front t (c.loop-index.index + 1) =
    ap (λ n. n + c.band_size.result) c.band_start-start.ensures ∙ ap (λ n. start t band + n) c.band_size.ensures ∙ front-more t band ∙ ap (λ n. front t (n + 1)) c.nth_band-band.ensures in (
      c.upgrade_band-fits.ensures.coefficients,
      λ sums srl raw u.
          let pass = pass_of t c.args.before.now c.args.behind.now sums srl raw in
          subst (λ n. Upgraded pass n c.upgrade_band-fits.new.plane (c.loop-index.fits && c.upgrade_band-fits.result) c.upgrade_band-fits.new.readers) ends
          (c.upgrade_band-fits.ensures.upgraded pass c.loop-index.fits
          (band-alike t c.args.before.now c.args.behind.now sums srl raw band c.loop-index.index from to _ _ _ c.nth_band-band.ensures c.band_start-start.ensures
          (ap (λ n. from + n) c.band_size.ensures) refl refl refl)
          (subst (λ n. Upgraded pass n c.loop-index.plane c.loop-index.fits c.loop-index.readers) (ap (front t) (sym c.nth_band-band.ensures) ∙ sym c.band_start-start.ensures) (c.loop-index.invariant.1 sums srl raw u))),
    )
