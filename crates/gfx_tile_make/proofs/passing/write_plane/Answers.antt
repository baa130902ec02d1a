use Rattle.std.proofs.Common.{◌≡◌, ◌∙◌, ◌+◌, ap, sym, subst, arith}
use Rattle.std.specs.Prelude.{◌==◌, slice_index}
use Rattle.gfx_dwt.specs.Place.{start}
use Rattle.gfx_tile_state.proofs.Bands.{band_at-is, ends, front, front-more, low-number, whole}
use Rattle.gfx_tile_make.specs.Upgrade.{entries_of}
use Rattle.gfx_tile_make.specs.Writing.{HasPassed, upgrade_by}
use Rattle.gfx_tile_make.proofs.ReadBack.{band-due}
use Rattle.gfx_tile_make.proofs.passing.write_plane.Goals as goal

pub loop-index-preserved : goal.loop-index-preserved
loop-index-preserved c = λ base begun.
    let t = c.args.transform in
    let band = c.nth_band-band.result in
    let from = c.band_start-start.result in
    let to = from + c.band_size.result in
    let pass = upgrade_by t base c.args.before.now c.args.behind.now c.args.values.now in
    let entries = entries_of t c.args.before.now c.args.behind.now c.args.values.now in
    let stops : to ≡ front t (c.loop-index.index + 1) =
    ap (λ n. n + c.band_size.result) c.band_start-start.ensures ∙ ap (λ n. start t band + n) c.band_size.ensures ∙ front-more t band ∙ ap (λ n. front t (n + 1)) c.nth_band-band.ensures in
    subst (λ n. HasPassed pass entries n c.write_band.new.writers) stops
    (c.in_ok-write_band.ensures pass entries band (sym (low-number band ∙ ap (λ j. j == 9) c.nth_band-band.ensures))
    (band-due t base c.args.before.now c.args.behind.now c.args.values.now band c.loop-index.index from to _ _ c.told-values (omega (arith, c.band_start-start.ensures, c.band_size.ensures, ends t band))
    (λ k a b. band_at-is t band k (omega (arith, c.band_start-start.ensures), omega (arith, c.band_start-start.ensures, c.band_size.ensures)))
    (ap (slice_index c.args.before.now) (sym c.nth_band-band.ensures)) (ap (slice_index c.args.behind.now) (sym c.nth_band-band.ensures)))
    (subst (λ n. HasPassed pass entries n c.loop-index.writers) (ap (front t) (sym c.nth_band-band.ensures) ∙ sym c.band_start-start.ensures) (c.loop-index.invariant base begun)))

pub returns : goal.returns
returns c = λ base begun.
    let t = c.args.transform in
    subst (λ n. HasPassed (upgrade_by t base c.args.before.now c.args.behind.now c.args.values.now) (entries_of t c.args.before.now c.args.behind.now c.args.values.now) n c.loop-index.writers)
    (ap (front t) {x = c.loop-index.index} {y = 10} (omega arith) ∙ whole t) (c.loop-index.invariant base begun)
